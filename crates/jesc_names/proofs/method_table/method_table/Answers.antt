use Rattle.std.proofs.Common.{◌-◌, get_or, map, take, arith}
use Rattle.jesc_names.specs.Program.{callables_at, joined}
use Rattle.jesc_names.proofs.TablesMethods.{adds_length, rows_more, sizes_more}
use Rattle.jesc_names.proofs.method_table.method_table.Goals as goal

pub overflow_sub-len : goal.overflow_sub-len
overflow_sub-len c =
    let given = c.args.names.classes.now in
    let order = c.args.names.order.now in
    let i = c.loop-number.number-index in
    let grown = adds_length given order (joined (map (callables_at given) (take i order))) (callables_at given (get_or order i 0)) c.loop-number.methods c.add_all.new.methods c.loop-number.invariant.methods c.in_ok-add_all.ensures in
    omega (arith, grown)

pub loop-number-preserved : goal.loop-number-preserved
loop-number-preserved c =
    let given = c.args.names.classes.now in
    let order = c.args.names.order.now in
    let i = c.loop-number.number-index in
    let grown = adds_length given order (joined (map (callables_at given) (take i order))) (callables_at given (get_or order i 0)) c.loop-number.methods c.add_all.new.methods c.loop-number.invariant.methods c.in_ok-add_all.ensures in
    record {
      methods = rows_more given order i c.loop-number-test.true c.loop-number.methods c.add_all.new.methods c.loop-number.invariant.methods c.in_ok-add_all.ensures;
      counts = sizes_more given order i c.loop-number-test.true c.loop-number.counts c.push.new.self (c.len.result - c.len-before.result) c.loop-number.invariant.counts c.in_ok-push.ensures.ok (omega (arith, grown, c.len.ensures, c.len-before.ensures));
    }
