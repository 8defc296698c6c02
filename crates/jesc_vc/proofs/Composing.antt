-- Steps made of several: writes of terms, and new objects.
use Rattle.std.proofs.Common.{◌≡◌, ℕ, ◌<◌, ◌≤◌, ◌++◌, ◌∙◌, arith}
use Rattle.std.specs.Prelude.{pos}
use Rattle.jesc_logic.specs.Terms.{Term, number}
use Rattle.jesc_logic.specs.Structures.{Structure, value}
use Rattle.jesc_core.specs.Trees.{TermTree}
use Rattle.jesc_core.specs.Fields.{fields_of_term}
use Rattle.jesc_core.specs.Proper.{IsProperTerm}
use Rattle.jesc_core.specs.Heaps.{Reading, with_integer, with_heap, with_field, with_element, with_built}
use Rattle.jesc_core.specs.Values as core
use Rattle.jesc_vc.specs.Facts.{AreShort}
use Rattle.jesc_vc.specs.Encodings.{Encoded, encode_term}
use Rattle.jesc_vc.specs.Moves.{Known, and_facts, ground, written, element_written, built_so}
use Rattle.jesc_vc.proofs.Below.{below_later}
use Rattle.jesc_vc.proofs.Encoded.{short_front, short_back}
use Rattle.jesc_vc.proofs.Moving.{Moves, Always, state, IsKnown, made_then, made_so, term_made}
use Rattle.jesc_vc.proofs.Writing.{field_set_made, built_set_made, element_set_made}

module _ (reading : Reading) (fields : ℕ) (k : Known) (b : IsKnown reading fields k) where
  -- ---- one field, one element, one mark

  module _ (f : ℕ) (object v : TermTree) where
    abbrev m : Encoded Term
    m = encode_term object k.env ground k.next

    abbrev i : Known
    i = and_facts k m.facts k.env m.next

    abbrev n : Encoded Term
    n = encode_term v k.env ground m.next

    pub written_moves : f < fields → IsProperTerm object → fields_of_term object ≤ fields → IsProperTerm v → fields_of_term v ≤ fields → AreShort (let j = written f object v k in j.facts)
        → Moves reading fields k (written f object v k) (Always reading fields) (λ y. with_heap y (with_field y.heap f (core.value reading object y) (core.value reading v y)))
    written_moves lt fine few fine' few' short =
        let short_two = short_front (k.facts ++ m.facts ++ n.facts) _ short in
        let short_one = short_front (k.facts ++ m.facts) n.facts short_two in
        let A = term_made reading fields k b object fine few (short_back k.facts m.facts short_one) in
        let a = A.made in
        let B = term_made reading fields i a.known v fine' few' (short_back (k.facts ++ m.facts) n.facts short_two) in
        let c = B.made in
        let j = and_facts i n.facts i.env n.next in
        let C = field_set_made reading fields j c.known f m.out n.out lt (below_later m.next n.next 0 0 c.rises (omega arith) m.out A.out) B.out in
        let M1 : Structure → Type 0 = λ s. value s m.out ≡ core.value reading object (state reading fields s k) in
        let M2 : Structure → Type 0 = λ s. value s n.out ≡ core.value reading v (state reading fields s k) in
        let M3 : Structure → Type 0 = λ s. state reading fields s (written f object v k) ≡ with_heap (state reading fields s k) (with_field (let y = state reading fields s k in y.heap) f (value s m.out) (value s n.out)) in
        let two = made_then reading fields k i j (Always reading fields) (Always reading fields) (Always reading fields) M1 M2 b a c (λ y u. tt) (λ s r p u. tt) in
        let all = made_then reading fields k j (written f object v k) (Always reading fields) (Always reading fields) (Always reading fields) (λ s. M1 s × M2 s) M3 b two C (λ y u. tt) (λ s r p u. tt) in
        made_so reading fields k (written f object v k) (Always reading fields) (Always reading fields) (λ s. (M1 s × M2 s) × M3 s)
        (λ s. Always reading fields (state reading fields s k) × (state reading fields s (written f object v k) ≡ (let y = state reading fields s k in with_heap y (with_field y.heap f (core.value reading object y) (core.value reading v y)))))
        all (λ y u. tt) (λ s r e. (tt, e.1 ∙ (λ t. let y = state reading fields s k in with_heap y (with_field y.heap f (e.0.0 t) (e.0.1 t)))))

  module _ (object : TermTree) where
    abbrev p : Encoded Term
    p = encode_term object k.env ground k.next

    abbrev q : Known
    q = and_facts k p.facts k.env p.next

    pub built_moves : IsProperTerm object → fields_of_term object ≤ fields → AreShort (let j = built_so object k in j.facts)
        → Moves reading fields k (built_so object k) (Always reading fields) (λ y. with_heap y (with_built y.heap (core.value reading object y)))
    built_moves fine few short =
        let A = term_made reading fields k b object fine few (short_back k.facts p.facts (short_front (k.facts ++ p.facts) _ short)) in
        let a = A.made in
        let C = built_set_made reading fields q a.known p.out (number (pos 1)) A.out tt in
        let M1 : Structure → Type 0 = λ s. value s p.out ≡ core.value reading object (state reading fields s k) in
        let M3 : Structure → Type 0 = λ s. state reading fields s (built_so object k) ≡ with_heap (state reading fields s k) (let h = (let y = state reading fields s k in y.heap) in record h { built = with_integer h.built (value s p.out) (pos 1) }) in
        let all = made_then reading fields k q (built_so object k) (Always reading fields) (Always reading fields) (Always reading fields) M1 M3 b a C (λ y u. tt) (λ s r e u. tt) in
        made_so reading fields k (built_so object k) (Always reading fields) (Always reading fields) (λ s. M1 s × M3 s)
        (λ s. Always reading fields (state reading fields s k) × (state reading fields s (built_so object k) ≡ (let y = state reading fields s k in with_heap y (with_built y.heap (core.value reading object y)))))
        all (λ y u. tt) (λ s r e. (tt, e.1 ∙ (λ t. let y = state reading fields s k in with_heap y (with_built y.heap (e.0 t)))))

  module _ (array index v : TermTree) where
    abbrev ma : Encoded Term
    ma = encode_term array k.env ground k.next

    abbrev ka : Known
    ka = and_facts k ma.facts k.env ma.next

    abbrev mi : Encoded Term
    mi = encode_term index k.env ground ma.next

    abbrev ki : Known
    ki = and_facts ka mi.facts ka.env mi.next

    abbrev mv : Encoded Term
    mv = encode_term v k.env ground mi.next

    pub element_moves : IsProperTerm array → fields_of_term array ≤ fields → IsProperTerm index → fields_of_term index ≤ fields → IsProperTerm v → fields_of_term v ≤ fields → AreShort (let j = element_written array index v k in j.facts)
        → Moves reading fields k (element_written array index v k) (Always reading fields) (λ y. with_heap y (with_element y.heap (core.value reading array y) (core.value reading index y) (core.value reading v y)))
    element_moves fa wa fi wi fv wv short =
        let short3 = short_front (k.facts ++ ma.facts ++ mi.facts ++ mv.facts) _ short in
        let short2 = short_front (k.facts ++ ma.facts ++ mi.facts) mv.facts short3 in
        let short1 = short_front (k.facts ++ ma.facts) mi.facts short2 in
        let A = term_made reading fields k b array fa wa (short_back k.facts ma.facts short1) in
        let a = A.made in
        let I = term_made reading fields ka a.known index fi wi (short_back (k.facts ++ ma.facts) mi.facts short2) in
        let c = I.made in
        let V = term_made reading fields ki c.known v fv wv (short_back (k.facts ++ ma.facts ++ mi.facts) mv.facts short3) in
        let d = V.made in
        let j = and_facts ki mv.facts ki.env mv.next in
        let pc = c.rises in
        let pd = d.rises in
        let C = element_set_made reading fields j d.known ma.out mi.out mv.out (below_later ma.next mv.next 0 0 (omega arith) (omega arith) ma.out A.out) (below_later mi.next mv.next 0 0 pd (omega arith) mi.out I.out) V.out in
        let M1 : Structure → Type 0 = λ s. value s ma.out ≡ core.value reading array (state reading fields s k) in
        let M2 : Structure → Type 0 = λ s. value s mi.out ≡ core.value reading index (state reading fields s k) in
        let M3 : Structure → Type 0 = λ s. value s mv.out ≡ core.value reading v (state reading fields s k) in
        let M4 : Structure → Type 0 = λ s. state reading fields s (element_written array index v k) ≡ with_heap (state reading fields s k) (with_element (let y = state reading fields s k in y.heap) (value s ma.out) (value s mi.out) (value s mv.out)) in
        let two = made_then reading fields k ka ki (Always reading fields) (Always reading fields) (Always reading fields) M1 M2 b a c (λ y u. tt) (λ s r e u. tt) in
        let three = made_then reading fields k ki j (Always reading fields) (Always reading fields) (Always reading fields) (λ s. M1 s × M2 s) M3 b two d (λ y u. tt) (λ s r e u. tt) in
        let all = made_then reading fields k j (element_written array index v k) (Always reading fields) (Always reading fields) (Always reading fields) (λ s. (M1 s × M2 s) × M3 s) M4 b three C (λ y u. tt) (λ s r e u. tt) in
        made_so reading fields k (element_written array index v k) (Always reading fields) (Always reading fields) (λ s. ((M1 s × M2 s) × M3 s) × M4 s)
        (λ s. Always reading fields (state reading fields s k) × (state reading fields s (element_written array index v k) ≡ (let y = state reading fields s k in with_heap y (with_element y.heap (core.value reading array y) (core.value reading index y) (core.value reading v y)))))
        all (λ y u. tt) (λ s r e. (tt, e.1 ∙ (λ t. let y = state reading fields s k in with_heap y (with_element y.heap (e.0.0.0 t) (e.0.0.1 t) (e.0.1 t)))))
