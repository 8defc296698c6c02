-- What tests of whole numbers tell, and facts with a premise.
use Rattle.std.proofs.Common.{◌≡◌, Bool, true, false, ◌||◌, not, ℤ, IsTrue, T, refl}
use Rattle.std.specs.Prelude.{◌≤ℤ◌, int_le}
use Rattle.std.specs.Bool.{Decides}

holds_of : (b : Bool) → b ≡ true → T b
holds_of true e = tt
holds_of false e = cc

true_of : (b : Bool) → T b → b ≡ true
true_of true h = refl
true_of false h = absurd h

pub Decides-int_le : (x y : ℤ) → Decides (int_le x y) (x ≤ℤ y)
Decides-int_le x y = (λ e. record { le = holds_of (int_le x y) e }, λ h. true_of (int_le x y) h.le)

pub implied : {F G : Type 0} (f g : Bool) → Decides f F → Decides g G → (F → G) → IsTrue (not f || g)
implied true true p q h = refl
implied true false p q h = q.1 (h (p.0 refl))
implied false g p q h = refl
