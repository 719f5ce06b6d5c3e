-- Laws of the digits of bytes: one byte more, how many they are, and how they are spelled out one by one. Assumes nothing.
use mathlib.Core.Path.{◌≡◌, refl, sym, ◌∙◌, ap}
use mathlib.Core.List.{List, [], ◌∷◌, ◌++◌, append_assoc}
use Prim.Native.Nat.{ℕ, suc, ◌+◌, ◌*◌, ◌/◌, ◌%◌, ◌<◌, ◌≤◌}
use native.Mathlib.Numerals.{add-one}
use native.Mathlib.Omega.{arith}
use lib.ListN.{length, get_or, take, set, length-set}
use lib.Seq.{take_all, take-suc, take-suc-set}
use Rattle.texts.specs.Letters.{hex_letter, hex_text}

-- a byte's digits, one more byte
pub hex_text_append : (xs ys : List ℕ) → hex_text (xs ++ ys) ≡ hex_text xs ++ hex_text ys
unfolding hex_text
hex_text_append [] ys = refl
hex_text_append (x ∷ xs) ys = ap (λ zs. hex_letter (x / 16) ∷ (hex_letter (x % 16) ∷ zs)) (hex_text_append xs ys)

pub hex_text_more : (bytes : List ℕ) (i : ℕ) {high low : ℕ} → i < length bytes → high ≡ hex_letter (get_or bytes i 0 / 16) → low ≡ hex_letter (get_or bytes i 0 % 16)
    → hex_text (take (i + 1) bytes) ≡ hex_text (take i bytes) ++ (high ∷ (low ∷ []))
unfolding hex_text
hex_text_more bytes i h p q = rw (p, q, add-one, take-suc bytes i 0 h) (hex_text_append (take i bytes) (get_or bytes i 0 ∷ []))

pub hex_text_length : (xs : List ℕ) → length (hex_text xs) ≡ 2 * length xs
unfolding hex_text
hex_text_length [] = refl
hex_text_length (x ∷ xs) = let rest = hex_text_length xs in omega arith

-- ---- digits spelled out, two a byte

module _ (out bytes : List ℕ) (i : ℕ) (e : take (2 * i) out ≡ hex_text (take i bytes)) where
  pub spelled_more : {high low : ℕ} → i < length bytes → length out ≡ 2 * length bytes → high ≡ hex_letter (get_or bytes i 0 / 16) → low ≡ hex_letter (get_or bytes i 0 % 16)
      → take (2 * (i + 1)) (set (set out (2 * i) high) (2 * i + 1) low) ≡ hex_text (take (i + 1) bytes)
  spelled_more {high} {low} h l p q =
      let two : 2 * (i + 1) ≡ suc (2 * i + 1) = omega arith in
      let ys = set out (2 * i) high in
      ap (λ (k : ℕ). take k (set ys (2 * i + 1) low)) two
      ∙ take-suc-set ys (2 * i + 1) low (rw length-set (omega arith))
      ∙ ap (λ (zs : List ℕ). zs ++ (low ∷ []))
      (ap (λ (k : ℕ). take k ys) (add-one (2 * i)) ∙ take-suc-set out (2 * i) high (omega arith) ∙ ap (λ (zs : List ℕ). zs ++ (high ∷ [])) e)
      ∙ append_assoc (hex_text (take i bytes)) (high ∷ []) (low ∷ [])
      ∙ sym (hex_text_more bytes i h p q)

  pub spelled_all : length bytes ≤ i → length out ≡ 2 * length bytes → out ≡ hex_text bytes
  spelled_all h l = sym (take_all (2 * i) out (omega arith)) ∙ e ∙ ap hex_text (take_all i bytes h)
