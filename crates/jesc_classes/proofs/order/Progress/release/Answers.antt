use Rattle.std.proofs.Common.{[], ◌∷◌, ◌++◌, ◌≡◌, ◌∙◌, ◌<◌, true, sym, subst, get_or}
use Rattle.std.proofs.lemmas.List.{length-set}
use Rattle.jesc_classes.proofs.Release.{taken_open, marked_at, next_open, releases_more, all_released}
use Rattle.jesc_classes.proofs.order.Progress.release.Goals as goal

pub loop-waiting-init : goal.loop-waiting-init
loop-waiting-init c =
    let graph = c.args.graph.now in
    let p = c.args.self.now in
    let class = c.args.class in
    let items = c.as_slice-waiting-items.result.now in
    let item_is = c.as_slice-waiting-items.ensures ∙ c.replace-released.ensures.value in
    let was = subst (λ ws. ws ≡ get_or p.waiting.items class ws) (sym item_is) c.index_mut-2.ensures.value in
    let in_marks = subst (λ n. class < n) (sym c.requires.sized.marks) c.requires.class.given in
    let in_rows = subst (λ n. class < n) (sym c.requires.sized.rows) c.requires.class.given in
    record {
      order_is = c.in_ok-push.ensures.ok;
      sized = record {
        marks = length-set p.has_id.items class true ∙ c.requires.sized.marks;
        rows = length-set p.waiting.items class c.replace-released.new.dest ∙ c.requires.sized.rows;
      };
      all_open = taken_open graph p.order p.has_id.items p.ready.keys p.waiting.items class c.requires.class c.requires.keeps in_rows items was;
      keeps = marked_at graph p.order p.has_id.items p.ready.keys p.waiting.items class c.requires.class c.requires.keeps in_marks in_rows c.requires.left c.push.new.self c.replace-released.new.dest items
          c.in_ok-push.ensures.ok (c.replace-released.ensures.after ∙ c.new.ensures) was;
    }

pub settle-requires-clause-open : goal.settle-requires-clause-open
settle-requires-clause-open c =
    next_open c.args.graph.now (c.args.self.now.order ++ c.args.class ∷ []) c.as_slice-waiting-items.result.now c.loop-waiting.waiting-index (record { class = 0; place = 0 }) c.loop-waiting.self c.loop-waiting-test.true
    c.loop-waiting.invariant

pub loop-waiting-preserved : goal.loop-waiting-preserved
loop-waiting-preserved c =
    releases_more c.args.graph.now (c.args.self.now.order ++ c.args.class ∷ []) c.as_slice-waiting-items.result.now c.loop-waiting.waiting-index (record { class = 0; place = 0 }) c.loop-waiting.self c.settle.new.self
    c.loop-waiting-test.true c.loop-waiting.invariant c.in_ok-settle.ensures

pub returns-clause-keeps : goal.returns-clause-keeps
returns-clause-keeps c =
    all_released c.args.graph.now (c.args.self.now.order ++ c.args.class ∷ []) c.as_slice-waiting-items.result.now c.loop-waiting.waiting-index c.loop-waiting.self c.loop-waiting-test.false c.loop-waiting.invariant
