-- From what fits to the answer of the function that decides it.
use Rattle.std.specs.Prelude.{IfOk}
use Rattle.std.specs.Bool.{one_answer}
use Rattle.std.proofs.Common.{◌≡◌, ◌↔◌, Bool, true, Result, Ok, Err}

pub same_ok : {E : Type 0} (P : Type 0) (s : Bool) → (s ≡ true) ↔ P → (r : Result Bool E) → IfOk r (λ b. (b ≡ true) ↔ P) → IfOk r (λ b. b ≡ s)
same_ok P s k (Ok b) h = one_answer b s h k
same_ok P s k (Err x) h = h
