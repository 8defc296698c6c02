use Rattle.std.proofs.Common.{◌+◌, get_or, drop, ◌∙◌, sym}
use Rattle.std.proofs.lemmas.List.{at_drop_all}
use Rattle.jesc_linear.specs.declared.stop.Slot.{Slot}
use Rattle.jesc_linear.specs.Elimination.{put_sums, put_all_sums}
use Rattle.jesc_linear.specs.Tables.{row_at, entries_of, table_of}
use Rattle.jesc_linear.proofs.Tables.{slot_kept, slots_kept, extends_on}
use Rattle.jesc_linear.proofs.Pairing.{above_kept, all_below_kept, sums_kept, next_sums, goes_on, ends_there}
use Rattle.jesc_linear.proofs.pairs.put_all_sums.Goals as goal

pub put_sums-requires : goal.put_sums-requires
put_sums-requires c =
    let old = c.args.table.now.log in
    let now = c.loop-upper.table.log in
    let log = c.loop-upper.invariant.log in
    let k = c.loop-upper.upper-index in
    let upper : Slot = get_or c.args.uppers.now k (record { number = 0; at = 0; mark = 0 }) in
    let is = c.requires.uppers k (record { number = 0; at = 0; mark = 0 }) c.loop-upper-test.true in
    record {
      table = c.loop-upper.invariant.table;
      upper = slot_kept old now upper log is;
      lowers = slots_kept old now c.args.lowers.now log c.requires.lowers;
      upper_sign = above_kept c.args.term old now log upper is (c.requires.upper_signs k (record { number = 0; at = 0; mark = 0 }) c.loop-upper-test.true);
      lower_signs = all_below_kept c.args.term old now log c.args.lowers.now c.requires.lowers c.requires.lower_signs;
    }

pub loop-upper-preserved : goal.loop-upper-preserved
loop-upper-preserved c =
    let old = c.args.table.now.log in
    let now = c.loop-upper.table.log in
    let log = c.loop-upper.invariant.log in
    let term = c.args.term in
    let lowers = entries_of old c.args.lowers.now in
    let k = c.loop-upper.upper-index in
    let upper : Slot = get_or c.args.uppers.now k (record { number = 0; at = 0; mark = 0 }) in
    let is = c.requires.uppers k (record { number = 0; at = 0; mark = 0 }) c.loop-upper-test.true in
    record {
      table = c.put_sums.ensures.table;
      log = extends_on old now c.put_sums.new.table.log log c.put_sums.ensures.log;
      course = goes_on (put_all_sums term (entries_of old c.args.uppers.now) lowers (table_of c.args.table.now)) (put_all_sums term (entries_of old (drop k c.args.uppers.now)) lowers (table_of c.loop-upper.table))
          (put_sums term (row_at old upper.at) lowers (table_of c.loop-upper.table)) (put_all_sums term (entries_of old (drop (k + 1) c.args.uppers.now)) lowers) (table_of c.put_sums.new.table)
          c.loop-upper.invariant.course (next_sums term old c.args.uppers.now lowers k (table_of c.loop-upper.table) c.loop-upper-test.true)
          (sym (sums_kept term old now log upper c.args.lowers.now (table_of c.loop-upper.table) is c.requires.lowers) ∙ c.in_ok-put_sums.ensures.course);
    }

pub returns-in_err-put_sums : goal.returns-in_err-put_sums
returns-in_err-put_sums c =
    let old = c.args.table.now.log in
    let now = c.loop-upper.table.log in
    let log = c.loop-upper.invariant.log in
    let term = c.args.term in
    let lowers = entries_of old c.args.lowers.now in
    let k = c.loop-upper.upper-index in
    let upper : Slot = get_or c.args.uppers.now k (record { number = 0; at = 0; mark = 0 }) in
    let is = c.requires.uppers k (record { number = 0; at = 0; mark = 0 }) c.loop-upper-test.true in
    record {
      table = c.put_sums.ensures.table;
      log = extends_on old now c.put_sums.new.table.log log c.put_sums.ensures.log;
      course = ends_there c.put_sums.new.table.log c.in_err-put_sums.field-0.0 (λ u. table_of c.put_sums.new.table) c.from_residual.result
          (put_all_sums term (entries_of old c.args.uppers.now) lowers (table_of c.args.table.now)) (put_all_sums term (entries_of old (drop k c.args.uppers.now)) lowers (table_of c.loop-upper.table))
          (put_sums term (row_at old upper.at) lowers (table_of c.loop-upper.table)) (put_sums term (row_at now upper.at) (entries_of now c.args.lowers.now) (table_of c.loop-upper.table))
          (put_all_sums term (entries_of old (drop (k + 1) c.args.uppers.now)) lowers) c.from_residual.ensures.1
          c.loop-upper.invariant.course (next_sums term old c.args.uppers.now lowers k (table_of c.loop-upper.table) c.loop-upper-test.true)
          (sums_kept term old now log upper c.args.lowers.now (table_of c.loop-upper.table) is c.requires.lowers) c.in_err-put_sums.ensures.course;
    }

pub returns-clause-course : goal.returns-clause-course
returns-clause-course c =
    let term = c.args.term in
    let lowers = entries_of c.args.table.now.log c.args.lowers.now in
    c.loop-upper.invariant.course
    ∙ at_drop_all (λ slots. put_all_sums term (entries_of c.args.table.now.log slots) lowers (table_of c.loop-upper.table)) c.args.uppers.now c.loop-upper.upper-index c.loop-upper-test.false
