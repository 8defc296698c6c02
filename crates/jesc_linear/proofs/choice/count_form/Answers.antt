use Rattle.std.proofs.Common.{take, pos, add-one, ap, sym, ◌∙◌}
use Rattle.jesc_linear.specs.Forms.{coefficient_of}
use Rattle.jesc_linear.specs.Counts.{count_at, more}
use Rattle.jesc_linear.proofs.Counts.{counted_part}
use Rattle.jesc_linear.proofs.choice.count_form.Goals as goal

pub loop-part-preserved : goal.loop-part-preserved
loop-part-preserved c =
    let start = c.args.counts.now.items in
    let form = c.args.form.now in
    let k = c.loop-part.part-index in
    record {
      counted = λ t. counted_part start c.loop-part.counts.items c.count_part.new.counts.items form k (pos 0, 0) c.requires c.loop-part-test.true c.loop-part.invariant.counted c.in_ok-count_part.ensures.counted t
          ∙ ap (λ n. more (count_at start t) (coefficient_of (take n form) t)) (sym (add-one k));
      few = λ l. c.count_part.ensures.few (c.loop-part.invariant.few l);
    }
