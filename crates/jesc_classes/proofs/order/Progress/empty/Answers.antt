use Rattle.std.proofs.Common.{◌∙◌, [], ◌∷◌, ◌++◌, ap}
use Rattle.jesc_classes.proofs.Start.{blank_more}
use Rattle.jesc_classes.proofs.order.Progress.empty.Goals as goal

pub loop-class-preserved : goal.loop-class-preserved
loop-class-preserved c =
    blank_more c.loop-class._class c.loop-class.has_id.items c.push.new.items.items c.loop-class.waiting.items c.push-in-loop-class.new.items.items c.loop-class.invariant c.in_ok-push.ensures
    (c.in_ok-push-2.ensures ∙ ap (λ row. c.loop-class.waiting.items ++ row ∷ []) c.new.ensures)
