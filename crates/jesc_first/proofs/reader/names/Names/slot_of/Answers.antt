use Rattle.std.proofs.Common.{◌≡◌, ℕ, List, Some, None, ◌∙◌, subst}
use Rattle.jesc_first.specs.Parsing.{slot_in}
use Rattle.jesc_first.proofs.Equal.{slot_shown}
use Rattle.jesc_first.proofs.reader.names.Names.slot_of.Goals as goal

pub returns-in-Some : goal.returns-in-Some
returns-in-Some c =
    subst (λ (names : List (List ℕ)). Some c.in-Some.slot ≡ slot_in names c.args.name.now) c.self.view_is
    (c.in-Some.ensures.index ∙ slot_shown c.args.name.now c.self.inside.set.keys)

pub returns-in-None : goal.returns-in-None
returns-in-None c =
    subst (λ (names : List (List ℕ)). None ≡ slot_in names c.args.name.now) c.self.view_is
    (c.in-None.ensures.index ∙ slot_shown c.args.name.now c.self.inside.set.keys)
