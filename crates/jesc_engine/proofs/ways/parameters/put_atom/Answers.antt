use Rattle.std.proofs.Common.{◌≤◌, length, sym, ◌∙◌, arith}
use Rattle.std.proofs.lemmas.List.{set_past}
use Rattle.jesc_engine.proofs.Parameters.{with_atom_is}
use Rattle.jesc_engine.proofs.ways.parameters.put_atom.Goals as goal

pub returns-else-slot-len : goal.returns-else-slot-len
returns-else-slot-len c =
    let atoms = c.args.atoms.now in
    let past : length atoms.items ≤ c.args.slot = omega (arith, atoms.ok.0, c.len.ensures, c.if-slot-len.false) in
    sym (with_atom_is atoms.items c.args.slot c.args.x ∙ set_past atoms.items c.args.slot c.args.x past)
