-- What an expression stands for by the relation, it stands for by the functions.
use Rattle.std.proofs.Common.{◌≡◌, Ok, List, refl}
use Rattle.jesc_ast.specs.Trees as ast
use Rattle.jesc_ast.specs.Trees.{list_of}
use Rattle.jesc_operands.specs.Operands.{kind_of}
use Rattle.jesc_operands.specs.laws.Decided.{are_related_exactly, chooses_exactly, makes_exactly, may_cast_exactly, turns_exactly}
use Rattle.jesc_tree.specs.Trees as tree
use Rattle.jesc_sites.specs.Operations.{operator_of, prefix_of}
use Rattle.jesc_sites.specs.Parts.{type_of}
use Rattle.jesc_sites.specs.Sites.{Around, IsSetting, Setting}
use Rattle.jesc_references.specs.Calls as calls
use Rattle.jesc_references.specs.Fields.{is_of_specification}
use Rattle.jesc_expressions.specs.Resolving.{resolved, resolved_all, target}
use Rattle.jesc_expressions.specs.Typing as typing
use Rattle.jesc_expressions.specs.Typing.{Targets, Typed, TypedAll}
use Rattle.jesc_expressions.specs.laws.Ranges.{within, written}
use Rattle.jesc_expressions.specs.laws.Sound.{all_within}
use Rattle.jesc_expressions.specs.laws.Tests.{all_pass, denoted, has_object, has_value, may_call_whole, may_read, reads_greatest, reads_less, received, says_this, values}

module _ (s : Setting) (known : IsSetting s) where
  mutual
    pub complete : (a : Around) (e : ast.Expression) (x : tree.Expression) → Typed s a e x → resolved s a e ≡ Ok x
    complete a e x (typing.number b span text n v l) = rw (v, reads_less b.role text n l)
    complete a e x (typing.greatest_number b span text v r) = rw (v, reads_greatest b.role text r)
    complete a e x (typing.truth b span v) = refl
    complete a e x (typing.null b span) = refl
    complete a e x (typing.this b span p) = rw ((says_this s.this b.role).1 p)
    complete a e x (typing.outcome b span t h) = rw h
    complete a e x (typing.variable b span text i m) = rw m
    complete a e x (typing.local b span text l m r v) = rw (m, (may_read s.is_code b.role l.is_ghost).1 r, (has_value b.in_old l.is_parameter).1 v)
    complete a e x (typing.constant b span text id f m c) = rw (m, c)
    complete a e x (typing.own_field b span text id f m c o r) = rw (m, c, (has_object s.this b.role).1 o, (may_read s.is_code b.role (is_of_specification f)).1 r)
    complete a e x (typing.paren b span i y p) = rw (complete _ i y p)
    complete a e x (typing.class_constant b span i dot w c id f q m t) = rw (q, m, t)
    complete a e x (typing.field b span i dot w y c id f q p t m k r) = rw (q, complete _ i y p, t, m, k, (may_read s.is_code b.role (is_of_specification f)).1 r)
    complete a e x (typing.array_length b span i dot w y t q p k l) = rw (q, complete _ i y p, k, l)
    complete a e x (typing.index b span i bracket j y z t p q k l) = rw (complete _ i y p, complete _ j z q, k, l)
    complete a e x (typing.unary b span op i y t p k) = rw (complete _ i y p, (turns_exactly (prefix_of op.text) (type_of y) t).1 k)
    complete a e x (typing.binary b span op l r y z t p q m) =
        rw (
          complete _ l y p,
          complete _ r z q,
          (makes_exactly s.classes s.fields s.methods known.lawful (kind_of (operator_of op.text)) (type_of y) (type_of z) t (within s known _ l y p) (within s known _ r z q)).1 m,
        )
    complete a e x (typing.choose b span c question l r u y z t o p q k m) =
        rw (
          complete _ c u o,
          complete _ l y p,
          complete _ r z q,
          k,
          (chooses_exactly s.classes s.fields s.methods known.lawful (type_of y) (type_of z) t (within s known _ l y p) (within s known _ r z q)).1 m,
        )
    complete a e x (typing.cast b span t i to y d p c) =
        rw (denoted s t to d, complete _ i y p, (may_cast_exactly s.classes s.fields s.methods known.lawful (type_of y) to (within s known _ i y p) (written s known t to d)).1 c)
    complete a e x (typing.instance_of b span i t y to p d r) =
        rw (
          complete _ i y p,
          denoted s t to d,
          (are_related_exactly s.classes s.fields s.methods known.lawful (type_of y) to (within s known _ i y p) (written s known t to d)).1 r,
          r.first,
        )
    complete a e x (typing.call b span r w es t xs c v p q m g f code whole) =
        let h = received s known w.span t c.method v g in
        rw (
          complete_target b r t p,
          complete_all b es xs q,
          m,
          h.0,
          all_pass s known c.method.params (list_of es) xs (all_within s known b es xs q) f,
          h.1,
          may_call_whole s.is_code b.role code whole,
          h.2,
        )
    complete a e x (typing.new_object b span w es class id c m xs n t i p k f code whole) =
        rw (n, t, i, complete_all b es xs p, k, all_pass s known m.params (list_of es) xs (all_within s known b es xs p) f, may_call_whole s.is_code b.role code whole)
    complete a e x (typing.new_array b span w i t y n p k code whole) = rw (n, complete _ i y p, k, may_call_whole s.is_code b.role code whole)
    complete a e x (typing.old b span i y p n k) = rw (complete _ i y p, values (type_of y) n, k)
    complete a e x (typing.fresh b span i y p n k) = rw (complete _ i y p, n, k)
    complete a e x (typing.quantifier b span all w low low_strict high high_strict i l h y p q r u v t) =
        rw (complete _ low l p, complete _ high h q, complete _ i y r, u, v, t)

    pub complete_target : (a : Around) (r : ast.Receiver) (t : calls.Target) → Targets s a r t → target s a r ≡ Ok t
    complete_target a r t (typing.Targets.implied b) = refl
    complete_target a r t (typing.Targets.super b) = refl
    complete_target a r t (typing.Targets.of_class b e dot c q) = rw q
    complete_target a r t (typing.Targets.on b e dot x q p) = rw (q, complete _ e x p)

    pub complete_all : (a : Around) (es : ast.Expressions) (xs : List tree.Expression) → TypedAll s a es xs → resolved_all s a es ≡ Ok xs
    complete_all a es xs (typing.TypedAll.none b) = refl
    complete_all a es xs (typing.TypedAll.one_more b e rest x ys p q) = rw (complete _ e x p, complete_all b rest ys q)
