use Rattle.std.proofs.Common.{◌∙◌, [], sym, arith}
use Rattle.jesc_lookup.specs.laws.Steps.{missing_pass, put_where_ok}
use Rattle.jesc_lookup.proofs.layers.add_one.Goals as goal

pub put-requires-clause-key : goal.put-requires-clause-key
put-requires-clause-key c =
    let wide = c.requires.sized c.args.version [] c.requires.version in
    omega (arith, wide, c.requires.key)

pub returns-in-Some : goal.returns-in-Some
returns-in-Some c = missing_pass c.args.keys.now c.args.versions.now c.args.version c.args.item c.requires.sized c.requires.version c.requires.key c.in-Some.field-0 (sym c.get.ensures ∙ c.in-Some.is)

pub returns-in-None : goal.returns-in-None
returns-in-None c =
    put_where_ok c.put.result c.args.keys.now c.args.versions.now c.args.version c.args.item c.put.new.self c.requires.sized c.requires.version c.requires.key (sym c.get.ensures ∙ c.in-None.is) c.put.ensures.ok c.put.ensures.number
