-- The end of the last `catch` of several.
use Rattle.std.proofs.Common.{◌≡◌, suc, ◌-◌, ◌<◌, List, [], ◌∷◌, length, get_or, map, sym, ap, ◌∙◌, arith}
use Rattle.jesc_text.specs.declared.place.Span.{Span}
use Rattle.jesc_ast.specs.declared.stmt.BodyTree.{out-BodyTree, fold_out-BodyTree}
use Rattle.jesc_ast.specs.declared.stmt.CatchTree.{CatchTree, out-CatchTree, fold_out-CatchTree}
use Rattle.jesc_ast.specs.Trees.{Catches, more_catches, catches_of, catch_view}
use Rattle.jesc_ast.specs.Statements.{catches_end}

abbrev close_of : CatchTree → Span
close_of c = (out-BodyTree (out-CatchTree c).body).close

end_of_one : (close : Span) (c : CatchTree) (cs : Catches) → catches_end close (more_catches (catch_view c) cs) ≡ catches_end (close_of c) cs
end_of_one close c cs = simp (fold_out-CatchTree, fold_out-BodyTree)

pub end_is_last : (close : Span) (cs : List CatchTree) (c : CatchTree) → 0 < length cs → c ≡ get_or cs (length cs - 1) c
    → close_of c ≡ catches_end close (catches_of (map catch_view cs))
end_is_last close [] c some last = absurd (omega arith)
end_is_last close (d ∷ []) c some last = ap close_of last ∙ sym (end_of_one close d (catches_of []))
end_is_last close (d ∷ e ∷ cs) c some last =
    let at : length (d ∷ e ∷ cs) - 1 ≡ suc (length cs) = omega arith in
    let before : length (e ∷ cs) - 1 ≡ length cs = omega arith in
    end_is_last (close_of d) (e ∷ cs) c (omega arith) (rw before (rw at at last)) ∙ sym (end_of_one close d (catches_of (map catch_view (e ∷ cs))))
