use Rattle.std.proofs.Common.{List, ℕ, subst}
use Rattle.jesc_first.specs.Parsing.{slot_in}
use Rattle.jesc_first.specs.Reads.{Adds, Keeps}
use Rattle.jesc_first.proofs.Shown.{shown}
use Rattle.jesc_first.proofs.Equal.{adds_shown, adds_keeps}
use Rattle.jesc_first.proofs.reader.names.Names.add.Goals as goal

pub returns-clause-added : goal.returns-clause-added
returns-clause-added c =
    subst (λ (old : List (List ℕ)). Adds old c.args.name.now (slot_in old c.args.name.now) c.in-Ok.added (shown c.insert.new.self.keys)) c.self.view_is
    (adds_shown c.args.name c.self.inside.set.keys c.insert.new.self.keys c.in-Ok.added c.in-Ok.ensures.added c.in-Ok.ensures.keys)

pub returns-clause-keeps : goal.returns-clause-keeps
returns-clause-keeps c =
    subst (λ (old : List (List ℕ)). Keeps old (shown c.insert.new.self.keys)) c.self.view_is
    (adds_keeps (shown c.self.inside.set.keys) c.args.name.now (slot_in (shown c.self.inside.set.keys) c.args.name.now) c.in-Ok.added (shown c.insert.new.self.keys)
    (adds_shown c.args.name c.self.inside.set.keys c.insert.new.self.keys c.in-Ok.added c.in-Ok.ensures.added c.in-Ok.ensures.keys))
