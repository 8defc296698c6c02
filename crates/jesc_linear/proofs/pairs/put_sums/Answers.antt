use Rattle.std.proofs.Common.{◌+◌, get_or, drop, ◌∙◌, sym}
use Rattle.std.proofs.lemmas.List.{at_drop_all}
use Rattle.jesc_linear.specs.declared.stop.Slot.{Slot}
use Rattle.jesc_linear.specs.Elimination.{put_sum, put_sums}
use Rattle.jesc_linear.specs.Tables.{row_at, entries_of, table_of}
use Rattle.jesc_linear.proofs.Tables.{slot_kept, extends_on}
use Rattle.jesc_linear.proofs.Pairing.{above_kept, below_kept, sum_kept, next_sum, goes_on, ends_there}
use Rattle.jesc_linear.proofs.pairs.put_sums.Goals as goal

pub put_sum-requires : goal.put_sum-requires
put_sum-requires c =
    let old = c.args.table.now.log in
    let now = c.loop-lower.table.log in
    let log = c.loop-lower.invariant.log in
    let k = c.loop-lower.lower-index in
    let lower : Slot = get_or c.args.lowers.now k (record { number = 0; at = 0; mark = 0 }) in
    let is = c.requires.lowers k (record { number = 0; at = 0; mark = 0 }) c.loop-lower-test.true in
    record {
      table = c.loop-lower.invariant.table;
      upper = slot_kept old now c.args.upper log c.requires.upper;
      lower = slot_kept old now lower log is;
      upper_sign = above_kept c.args.term old now log c.args.upper c.requires.upper c.requires.upper_sign;
      lower_sign = below_kept c.args.term old now log lower is (c.requires.lower_signs k (record { number = 0; at = 0; mark = 0 }) c.loop-lower-test.true);
    }

pub loop-lower-preserved : goal.loop-lower-preserved
loop-lower-preserved c =
    let old = c.args.table.now.log in
    let now = c.loop-lower.table.log in
    let log = c.loop-lower.invariant.log in
    let term = c.args.term in
    let upper = row_at old c.args.upper.at in
    let k = c.loop-lower.lower-index in
    let lower : Slot = get_or c.args.lowers.now k (record { number = 0; at = 0; mark = 0 }) in
    let is = c.requires.lowers k (record { number = 0; at = 0; mark = 0 }) c.loop-lower-test.true in
    record {
      table = c.put_sum.ensures.table;
      log = extends_on old now c.put_sum.new.table.log log c.put_sum.ensures.log;
      course = goes_on (put_sums term upper (entries_of old c.args.lowers.now) (table_of c.args.table.now)) (put_sums term upper (entries_of old (drop k c.args.lowers.now)) (table_of c.loop-lower.table))
          (put_sum term upper (row_at old lower.at) (table_of c.loop-lower.table)) (put_sums term upper (entries_of old (drop (k + 1) c.args.lowers.now))) (table_of c.put_sum.new.table)
          c.loop-lower.invariant.course (next_sum term upper old c.args.lowers.now k (table_of c.loop-lower.table) c.loop-lower-test.true)
          (sym (sum_kept term old now log c.args.upper lower (table_of c.loop-lower.table) c.requires.upper is) ∙ c.in_ok-put_sum.ensures.course);
    }

pub returns-in_err-put_sum : goal.returns-in_err-put_sum
returns-in_err-put_sum c =
    let old = c.args.table.now.log in
    let now = c.loop-lower.table.log in
    let log = c.loop-lower.invariant.log in
    let term = c.args.term in
    let upper = row_at old c.args.upper.at in
    let k = c.loop-lower.lower-index in
    let lower : Slot = get_or c.args.lowers.now k (record { number = 0; at = 0; mark = 0 }) in
    let is = c.requires.lowers k (record { number = 0; at = 0; mark = 0 }) c.loop-lower-test.true in
    record {
      table = c.put_sum.ensures.table;
      log = extends_on old now c.put_sum.new.table.log log c.put_sum.ensures.log;
      course = ends_there c.put_sum.new.table.log c.in_err-put_sum.field-0.0 (λ u. table_of c.put_sum.new.table) c.from_residual.result
          (put_sums term upper (entries_of old c.args.lowers.now) (table_of c.args.table.now)) (put_sums term upper (entries_of old (drop k c.args.lowers.now)) (table_of c.loop-lower.table))
          (put_sum term upper (row_at old lower.at) (table_of c.loop-lower.table)) (put_sum term (row_at now c.args.upper.at) (row_at now lower.at) (table_of c.loop-lower.table))
          (put_sums term upper (entries_of old (drop (k + 1) c.args.lowers.now))) c.from_residual.ensures.1
          c.loop-lower.invariant.course (next_sum term upper old c.args.lowers.now k (table_of c.loop-lower.table) c.loop-lower-test.true)
          (sum_kept term old now log c.args.upper lower (table_of c.loop-lower.table) c.requires.upper is) c.in_err-put_sum.ensures.course;
    }

pub returns-clause-course : goal.returns-clause-course
returns-clause-course c =
    let term = c.args.term in
    let upper = row_at c.args.table.now.log c.args.upper.at in
    c.loop-lower.invariant.course
    ∙ at_drop_all (λ slots. put_sums term upper (entries_of c.args.table.now.log slots) (table_of c.loop-lower.table)) c.args.lowers.now c.loop-lower.lower-index c.loop-lower-test.false
