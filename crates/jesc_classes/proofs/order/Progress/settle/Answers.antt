use Rattle.std.proofs.Common.{◌∙◌, length, refl, ap, subst, get_or}
use Rattle.std.proofs.lemmas.List.{length-set}
use Rattle.std.proofs.lemmas.Result.{on_ok_weaker}
use Rattle.jesc_classes.proofs.Release.{row_of, of_tables, entered, queued_at}
use Rattle.jesc_classes.specs.Order.{supers}
use Rattle.jesc_classes.specs.Progress.{AllMarked}
use Rattle.jesc_classes.proofs.order.Progress.settle.Goals as goal

pub returns-in-None : goal.returns-in-None
returns-in-None c =
    let graph = c.args.graph.now in
    let p = c.args.self.now in
    let w = c.args.waiting in
    let xs = c.as_slice-supers.result.now in
    let row = c.as_slice-supers.ensures ∙ row_of graph w.class c.index-graph-waiting.result c.requires.open.given c.index-graph-waiting.is in
    let marked = of_tables p.has_id.items c.as_slice.result.now xs (supers graph w.class) w.place (length xs) c.as_slice.ensures.value row c.in-None.ensures in
    let all = subst (λ n. AllMarked p.has_id.items (supers graph w.class) w.place n) (ap length row) marked in
    on_ok_weaker c.add.result (λ adds. record {
      order = refl;
      sized = record { marks = c.requires.sized.marks; rows = c.requires.sized.rows };
      keeps = λ pending s. entered graph c.requires.within p.order p.has_id.items w c.requires.open p.ready.keys c.add.new.ready.keys p.waiting.items pending all adds s;
    }) c.add.ensures

pub returns-in-Some : goal.returns-in-Some
returns-in-Some c =
    let graph = c.args.graph.now in
    let p = c.args.self.now in
    let w = c.args.waiting in
    let xs = c.as_slice-supers.result.now in
    let row = c.as_slice-supers.ensures ∙ row_of graph w.class c.index-graph-waiting.result c.requires.open.given c.index-graph-waiting.is in
    on_ok_weaker c.push.result (λ pushed. record {
      order = refl;
      sized = record { marks = c.requires.sized.marks; rows = length-set p.waiting.items (get_or xs c.in-Some.place 0) c.push.new.self ∙ c.requires.sized.rows };
      keeps = λ pending s. queued_at graph c.requires.within p.order p.has_id.items w c.requires.open p.ready.keys p.waiting.items (record { class = w.class; place = c.in-Some.place }) pending xs c.as_slice.result.now
          c.index_mut.result.now c.push.new.self c.requires.sized.rows refl c.as_slice.ensures.value row c.in-Some.ensures c.index_mut.ensures.value pushed s;
    }) c.push.ensures.ok
