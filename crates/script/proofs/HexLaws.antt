-- Laws of the bytes that hexadecimal digits stand for. Assumes nothing.
use mathlib.Core.Path.{◌≡◌, refl, ◌∙◌, ap₂}
use mathlib.Core.List.{List, [], ◌∷◌}
use Prim.Native.Nat.{ℕ, zero, suc, ◌+◌, ◌*◌, ◌/◌, ◌<◌}
use native.Mathlib.Omega.{arith}
use lib.ListN.{length, get_or}
use Rattle.script.specs.Hex.{byte_of, value_bytes}

-- how many bytes a word's digits stand for, and which
pub value_bytes_length : (word : List ℕ) → length (value_bytes word) ≡ length word / 2
unfolding value_bytes
value_bytes_length [] = refl
value_bytes_length (a ∷ []) = refl
value_bytes_length (a ∷ (b ∷ rest)) = let more = value_bytes_length rest in omega arith

pub value_byte_at : (word : List ℕ) (i : ℕ) → i < length word / 2
    → get_or (value_bytes word) i 0 ≡ byte_of (get_or word (2 * i) 0) (get_or word (2 * i + 1) 0)
unfolding value_bytes
value_byte_at [] i h = absurd (omega arith)
value_byte_at (a ∷ []) i h = absurd (omega arith)
value_byte_at (a ∷ (b ∷ rest)) zero h = refl
value_byte_at (a ∷ (b ∷ rest)) (suc i) h =
    let even : suc (suc (2 * i)) ≡ 2 * suc i = omega arith in
    let odd : suc (suc (2 * i + 1)) ≡ 2 * suc i + 1 = omega arith in
    value_byte_at rest i (omega arith) ∙ ap₂ (λ (j k : ℕ). byte_of (get_or (a ∷ (b ∷ rest)) j 0) (get_or (a ∷ (b ∷ rest)) k 0)) even odd
