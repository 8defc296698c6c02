-- Words that only contracts inside the crate use.
use Rattle.std.specs.Prelude.{ℕ, ◌-◌, nat_le, List, length, slice_get, unwrap_or, if◌then◌else◌}
use Rattle.jesc_logic.specs.declared.terms.TermId.{TermId}
use Rattle.jesc_logic.specs.declared.terms.Node.{Node}
use Rattle.jesc_logic.specs.declared.terms.Node.TheVariants.{App}

-- what stands at a place of a node: 0 past the arguments
abbrev pub place_in : List TermId → ℕ → TermId
place_in args k = unwrap_or (slice_get args k) (record { 0 = 0 })

-- the node of a symbol over arguments, of which there are at most three
abbrev pub node_over : ℕ → List TermId → Node
node_over symbol args = App symbol (length args) (place_in args 0) (place_in args 1) (place_in args 2)

-- the argument of a symbol that is a variable, and else the number itself
abbrev pub chosen : ℕ → List TermId → TermId → TermId
chosen symbol args id = if nat_le 32 symbol then unwrap_or (slice_get args (symbol - 32)) id else id
