-- The answer of the code's test of soundness says what the clauses of soundness say. Rests on the theorem `sound_says` of the rules.
use mathlib.Core.Path.{sym, ◌∙◌}
use Rattle.rules.proofs.Books.SoundnessSays.{sound_says}
use Rattle.machine.specs.View.{view}
use Rattle.machine.specs.Statements.{AnswerSaysSound}

pub answer_says_sound : AnswerSaysSound
answer_says_sound z b r e = let s = sound_says z (view b) in (λ t. s.0 (sym e ∙ t), λ t. e ∙ s.1 t)
