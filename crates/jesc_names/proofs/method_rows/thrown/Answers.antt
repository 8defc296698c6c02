use Rattle.std.proofs.Common.{List, ℕ, subst}
use Rattle.jesc_names.specs.Program.{IsThrown, IsReference}
use Rattle.jesc_names.proofs.TablesZips.{zip_more}
use Rattle.jesc_names.proofs.method_rows.thrown.Goals as goal

pub loop-word-preserved : goal.loop-word-preserved
loop-word-preserved c =
    let given = c.args.names.classes.now in
    let order = c.args.names.order.now in
    zip_more (IsThrown given order) c.args.words.now c.loop-word.classes c.push.new.self c.loop-word.word-index c.word-item.result c.named_id.result c.loop-word-test.true c.word-item.is c.in_ok-push.ensures.ok c.loop-word.invariant
    (subst (λ (name : List ℕ). IsReference given order name c.named_id.result) c.as_slice.ensures c.named_id.ensures)
