-- Words that only contracts inside the crate use.
use Rattle.std.specs.Prelude.{◌≡◌, ℕ, ◌+ℤ◌, ◌*ℤ◌, [], ◌∷◌}
use Rattle.jesc_linear.specs.declared.rows.Row.{Row}
use Rattle.jesc_linear.specs.declared.rows.LinStep.{LinStep}
use Rattle.jesc_linear.specs.Forms.{Form, coefficient_of}

abbrev pub row_of : LinStep → Row
row_of step = step.row

-- the step's form combines the two rows' forms, as far as this term goes
abbrev pub AgreesAt : Row → Row → LinStep → ℕ → Type 0
AgreesAt first second step term = step.d *ℤ coefficient_of step.row.form term ≡ step.a *ℤ coefficient_of first.form term +ℤ step.b *ℤ coefficient_of second.form term

abbrev pub AgreesOn : Row → Row → LinStep → Form → Type 0
AgreesOn first second step [] = Unit {0}
AgreesOn first second step (part ∷ rest) = AgreesAt first second step part.1 × AgreesOn first second step rest
