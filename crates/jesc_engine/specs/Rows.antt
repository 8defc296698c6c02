-- Rows over one or two atoms, and over a new term besides.
use Rattle.std.specs.Prelude.{◌&&◌, ℕ, Bool, if◌then◌else◌, nat_lt, ℤ, pos, negsuc, ◌+ℤ◌, ◌-ℤ◌, ◌*ℤ◌, [], ◌∷◌, ◌++◌}
use Rattle.std.specs.Int.Signed.{le_z}
use Rattle.jesc_linear.specs.declared.rows.Row.{Row}
use Rattle.jesc_linear.specs.Forms.{Form}
use Rattle.jesc_engine.specs.declared.ways.atom.Atom.{Atom}
use Rattle.jesc_engine.specs.declared.ways.atom.Atom.TheVariants.{Number, Term}

-- what an atom is worth where v gives each term a whole number
abbrev pub worth : (ℕ → ℤ) → Atom → ℤ
worth v (Number z) = z
worth v (Term k) = v k

abbrev pub is_zero : ℤ → Bool
is_zero z = le_z z (pos 0) && le_z (pos 0) z

-- the part of a sum at one term, none where the coefficient is 0
abbrev pub one_part : ℤ → ℕ → Form
one_part c k = if is_zero c then [] else (c, k) ∷ []

-- a * the first atom + b * the second, the terms alone
abbrev pub pair_form : ℤ → Atom → ℤ → Atom → Form
pair_form a (Number x) b (Number y) = []
pair_form a (Term j) b (Number y) = (a, j) ∷ []
pair_form a (Number x) b (Term k) = (b, k) ∷ []
pair_form a (Term j) b (Term k) =
    if nat_lt j k then (a, j) ∷ (b, k) ∷ [] else (if nat_lt k j then (b, k) ∷ (a, j) ∷ [] else one_part (a +ℤ b) j)

-- what a number adds to the sum
abbrev pub constant_of : Atom → ℤ
constant_of (Number x) = x
constant_of (Term k) = pos 0

-- a * the first atom + b * the second, the numbers alone
abbrev pub pair_constant : ℤ → Atom → ℤ → Atom → ℤ
pair_constant a x b y = a *ℤ constant_of x +ℤ b *ℤ constant_of y

-- a * x + b * y is at most the bound
abbrev pub pair_row : ℤ → Atom → ℤ → Atom → ℤ → Row
pair_row a x b y bound = record { form = pair_form a x b y; bound = bound -ℤ pair_constant a x b y }

-- a * x + b * y + c * the new term is at most 0; the new term is greater than those of x and y
abbrev pub tie_row : ℤ → Atom → ℤ → Atom → ℤ → ℕ → Row
tie_row a x b y c fresh = record { form = pair_form a x b y ++ (c, fresh) ∷ []; bound = pos 0 -ℤ pair_constant a x b y }

-- the term is at most the bound
abbrev pub at_most : ℕ → ℤ → Row
at_most term bound = record { form = (pos 1, term) ∷ []; bound = bound }

-- minus the term is at most the bound
abbrev pub minus_at_most : ℕ → ℤ → Row
minus_at_most term bound = record { form = (negsuc 0, term) ∷ []; bound = bound }
