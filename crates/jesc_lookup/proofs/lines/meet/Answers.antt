use Rattle.std.proofs.Common.{◌∙◌, sym}
use Rattle.jesc_lookup.proofs.LineGrowth.{meets_new, meets_old, none_of, some_of}
use Rattle.jesc_lookup.proofs.lines.meet.Goals as goal

pub returns : goal.returns
returns c =
    meets_new c.args.versions.now c.args.line.now c.put.new.self (record { version = c.in_ok-line.field-0; extra = c.push.new.self }) c.args.class c.requires.class
    (sym c.get.ensures ∙ none_of c.get.result (sym c.is_some.ensures ∙ c.if-is_some.false)) c.in_ok-line.ensures.ok c.in_ok-line.ensures.number c.in_ok-push.ensures.ok

pub returns-then-is_some : goal.returns-then-is_some
returns-then-is_some c =
    let some = some_of c.get.result (sym c.is_some.ensures ∙ c.if-is_some.true) in
    meets_old c.args.versions.now c.args.line.now c.args.class some.0 c.requires.there (sym c.get.ensures ∙ some.1)
