-- Document 01, "Trials": the nine marked ●, as one statement on the rules themselves. Cells X = 0, Y = 1, opening zero.
-- A trial is a list of calls from a fresh machine, each with what it answers. The transactions of a trial take places 0, 1, 2, each with turn 1.
use Rattle.std.specs.Prelude.{◌≡◌, ℕ, List, [], ◌∷◌, map}
use Rattle.rules.specs.declared.Record.{Record}
use Rattle.rules.specs.Sizes.{yard}
use Rattle.rules.specs.Handles.{handle_of}
use Rattle.rules.specs.Daylog.{no_value, filled}
use Rattle.rules.specs.State.{Entry, nothing, adds, closes, opens, Outcome}
use Rattle.rules.specs.Calls.{Call, Begin, Write, Read, Commit, Order}
use Rattle.rules.specs.Run.{played, fresh}

-- ---- what a call answers

-- the number given back, the number of records after the call, the kind and value of the record added (0 and none if none), the order
pub record Answer : Type 0 where
  pub number : ℕ
  pub records : ℕ
  pub kind : ℕ
  pub value : List ℕ
  pub order : List ℕ

abbrev kind_added : Entry → ℕ
kind_added nothing = 0
kind_added (adds r) = r.kind
kind_added (closes records total) = 0
kind_added opens = 0

abbrev value_added : Entry → List ℕ
value_added nothing = []
value_added (adds r) = r.value
value_added (closes records total) = []
value_added opens = []

abbrev pub answer_of : Outcome → Answer
answer_of o =
    record {
      number = o.number;
      records = o.after.books.records;
      kind = kind_added o.entry;
      value = value_added o.entry;
      order = o.order;
    }

-- the 8 bytes of a small number
abbrev pub bytes : ℕ → List ℕ
bytes n = n ∷ 0 ∷ 0 ∷ 0 ∷ 0 ∷ 0 ∷ 0 ∷ 0 ∷ []

-- granted as record n of a kind, with a value
abbrev pub granted_as : ℕ → ℕ → ℕ → Answer
granted_as n kind v = record { number = 0; records = n; kind = kind; value = bytes v; order = [] }

-- Conflict as record n of a kind
abbrev pub conflict_as : ℕ → ℕ → Answer
conflict_as n kind = record { number = 9; records = n; kind = kind; value = no_value; order = [] }

-- an order given after n records
abbrev pub ordered : ℕ → List ℕ → Answer
ordered n order = record { number = 0; records = n; kind = 0; value = []; order = order }

-- ---- a trial

pub record Line : Type 0 where
  pub call : Call
  pub answer : Answer

infix 20 ◌⇒◌
abbrev pub ◌⇒◌ : Call → Answer → Line
c ⇒ a = record { call = c; answer = a }

-- played from a fresh machine, each call answers what its line says
abbrev pub Holds : List Line → Type 0
Holds lines = map answer_of (played yard (map (λ l. l.call) lines) (fresh yard)).outcomes ≡ map (λ l. l.answer) lines

abbrev X : ℕ
X = 0

abbrev Y : ℕ
Y = 1

-- the handles of the transactions at places 0, 1 and 2
abbrev h₀ : ℕ
h₀ = handle_of 0 1

abbrev h₁ : ℕ
h₁ = handle_of 1 1

abbrev h₂ : ℕ
h₂ = handle_of 2 1

-- A: P begins, reads X; Q begins; R begins, writes X = 7, commits (record 6); Q reads X (7) and Y (0); Q's order after record 8 was 4, 3;
-- P writes Y = 5 and commits (10): granted, order 1, 4. Q's commit (11): Conflict.
abbrev pub case_a : List Line
case_a =
    (Begin ⇒ granted_as 1 1 0)
    ∷ (Read h₀ X ⇒ granted_as 2 2 0)
    ∷ (Begin ⇒ granted_as 3 1 0)
    ∷ (Begin ⇒ granted_as 4 1 0)
    ∷ (Write h₂ X (bytes 7) ⇒ granted_as 5 4 7)
    ∷ (Commit h₂ ⇒ granted_as 6 5 0)
    ∷ (Read h₁ X ⇒ granted_as 7 2 7)
    ∷ (Read h₁ Y ⇒ granted_as 8 2 0)
    ∷ (Order h₁ ⇒ ordered 8 (4 ∷ 3 ∷ []))
    ∷ (Write h₀ Y (bytes 5) ⇒ granted_as 9 4 5)
    ∷ (Commit h₀ ⇒ granted_as 10 5 0)
    ∷ (Order h₀ ⇒ ordered 10 (1 ∷ 4 ∷ []))
    ∷ (Commit h₁ ⇒ conflict_as 11 8)
    ∷ []

-- the records that case A leaves, the newest first: kind, place, cell and value, each with turn 1
abbrev noted : ℕ → ℕ → ℕ → ℕ → Record
noted kind place c v = filled kind place c 1 (bytes v)

abbrev pub case_a_day : List Record
case_a_day =
    noted 8 1 0 0
    ∷ noted 5 0 0 0
    ∷ noted 4 0 Y 5
    ∷ noted 2 1 Y 0
    ∷ noted 2 1 X 7
    ∷ noted 5 2 0 0
    ∷ noted 4 2 X 7
    ∷ noted 1 2 0 0
    ∷ noted 1 1 0 0
    ∷ noted 2 0 X 0
    ∷ noted 1 0 0 0
    ∷ []

-- P reads X, R commits X, P reads X again: Conflict.
abbrev pub read_again : List Line
read_again =
    (Begin ⇒ granted_as 1 1 0)
    ∷ (Read h₀ X ⇒ granted_as 2 2 0)
    ∷ (Begin ⇒ granted_as 3 1 0)
    ∷ (Write h₁ X (bytes 1) ⇒ granted_as 4 4 1)
    ∷ (Commit h₁ ⇒ granted_as 5 5 0)
    ∷ (Read h₀ X ⇒ conflict_as 6 7)
    ∷ []

-- P reads X, R commits X and Y, P reads Y: Conflict (the offset and the times).
abbrev pub offset_and_times : List Line
offset_and_times =
    (Begin ⇒ granted_as 1 1 0)
    ∷ (Read h₀ X ⇒ granted_as 2 2 0)
    ∷ (Begin ⇒ granted_as 3 1 0)
    ∷ (Write h₁ X (bytes 1) ⇒ granted_as 4 4 1)
    ∷ (Write h₁ Y (bytes 2) ⇒ granted_as 5 4 2)
    ∷ (Commit h₁ ⇒ granted_as 6 5 0)
    ∷ (Read h₀ Y ⇒ conflict_as 7 7)
    ∷ []

-- P begins, reads X, R begins and commits X, P commits: granted, order P, R.
abbrev pub overtaken : List Line
overtaken =
    (Begin ⇒ granted_as 1 1 0)
    ∷ (Read h₀ X ⇒ granted_as 2 2 0)
    ∷ (Begin ⇒ granted_as 3 1 0)
    ∷ (Write h₁ X (bytes 1) ⇒ granted_as 4 4 1)
    ∷ (Commit h₁ ⇒ granted_as 5 5 0)
    ∷ (Commit h₀ ⇒ granted_as 6 5 0)
    ∷ (Order h₀ ⇒ ordered 6 (1 ∷ 3 ∷ []))
    ∷ []

-- P and Q read X, both write it, P commits, Q's commit: Conflict.
abbrev pub lost_update : List Line
lost_update =
    (Begin ⇒ granted_as 1 1 0)
    ∷ (Begin ⇒ granted_as 2 1 0)
    ∷ (Read h₀ X ⇒ granted_as 3 2 0)
    ∷ (Read h₁ X ⇒ granted_as 4 2 0)
    ∷ (Write h₀ X (bytes 1) ⇒ granted_as 5 4 1)
    ∷ (Write h₁ X (bytes 2) ⇒ granted_as 6 4 2)
    ∷ (Commit h₀ ⇒ granted_as 7 5 0)
    ∷ (Commit h₁ ⇒ conflict_as 8 8)
    ∷ []

-- P and Q write X unread, both commit: granted, order P, Q.
abbrev pub blind_writes : List Line
blind_writes =
    (Begin ⇒ granted_as 1 1 0)
    ∷ (Begin ⇒ granted_as 2 1 0)
    ∷ (Write h₀ X (bytes 1) ⇒ granted_as 3 4 1)
    ∷ (Write h₁ X (bytes 2) ⇒ granted_as 4 4 2)
    ∷ (Commit h₀ ⇒ granted_as 5 5 0)
    ∷ (Commit h₁ ⇒ granted_as 6 5 0)
    ∷ (Order h₁ ⇒ ordered 6 (1 ∷ 2 ∷ []))
    ∷ []

-- P and Q read X and Y; P writes X and commits; Q writes Y, commit: Conflict.
abbrev pub write_skew : List Line
write_skew =
    (Begin ⇒ granted_as 1 1 0)
    ∷ (Begin ⇒ granted_as 2 1 0)
    ∷ (Read h₀ X ⇒ granted_as 3 2 0)
    ∷ (Read h₀ Y ⇒ granted_as 4 2 0)
    ∷ (Read h₁ X ⇒ granted_as 5 2 0)
    ∷ (Read h₁ Y ⇒ granted_as 6 2 0)
    ∷ (Write h₀ X (bytes 1) ⇒ granted_as 7 4 1)
    ∷ (Commit h₀ ⇒ granted_as 8 5 0)
    ∷ (Write h₁ Y (bytes 2) ⇒ granted_as 9 4 2)
    ∷ (Commit h₁ ⇒ conflict_as 10 8)
    ∷ []

-- P reads X; R commits X; then S begins, commits Y; P reads Y: Conflict, though R and S share no cell.
abbrev pub through_real_time : List Line
through_real_time =
    (Begin ⇒ granted_as 1 1 0)
    ∷ (Read h₀ X ⇒ granted_as 2 2 0)
    ∷ (Begin ⇒ granted_as 3 1 0)
    ∷ (Write h₁ X (bytes 1) ⇒ granted_as 4 4 1)
    ∷ (Commit h₁ ⇒ granted_as 5 5 0)
    ∷ (Begin ⇒ granted_as 6 1 0)
    ∷ (Write h₂ Y (bytes 2) ⇒ granted_as 7 4 2)
    ∷ (Commit h₂ ⇒ granted_as 8 5 0)
    ∷ (Read h₀ Y ⇒ conflict_as 9 7)
    ∷ []

-- Commit with no read: granted.
abbrev pub unread : List Line
unread = (Begin ⇒ granted_as 1 1 0) ∷ (Write h₀ X (bytes 1) ⇒ granted_as 2 4 1) ∷ (Commit h₀ ⇒ granted_as 3 5 0) ∷ []

-- all nine
pub record Trials : Type 0 where
  pub case_a_holds : Holds case_a
  pub case_a_records : (played yard (map (λ l. l.call) case_a) (fresh yard)).machine.day ≡ case_a_day
  pub read_again_holds : Holds read_again
  pub offset_and_times_holds : Holds offset_and_times
  pub overtaken_holds : Holds overtaken
  pub lost_update_holds : Holds lost_update
  pub blind_writes_holds : Holds blind_writes
  pub write_skew_holds : Holds write_skew
  pub through_real_time_holds : Holds through_real_time
  pub unread_holds : Holds unread
