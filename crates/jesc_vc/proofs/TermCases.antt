-- The terms of a core's terms, form by form.
use Rattle.std.proofs.Common.{◌≡◌, ℕ, suc, ◌<◌, true, nat_lt, List, [], ◌∷◌, ◌++◌, length, map, refl, sym, ap, ◌∙◌, subst, arith, if◌then◌else◌}
use Rattle.std.specs.Prelude.{ℤ, pos}
use Rattle.std.specs.List.{Contains}
use Rattle.std.proofs.lemmas.Bool.Decides.{nat_tests}
use Rattle.jesc_logic.specs.Terms.{Term, number, applied}
use Rattle.jesc_logic.specs.Claims.{Claim, Each}
use Rattle.jesc_logic.specs.Structures.{Structure, read, value, is_true}
use Rattle.jesc_core.specs.declared.term.HeapName.{HeapName}
use Rattle.jesc_core.specs.Trees.{TermTree, TermTrees, no_terms, more_terms, FormulaTree}
use Rattle.jesc_core.specs.Heaps.{Reading, Heap}
use Rattle.jesc_core.specs.Values as core
use Rattle.jesc_core.specs.Proper.{core_symbols, term_count}
use Rattle.jesc_vc.specs.Facts.{IsBelow, AreBelow}
use Rattle.jesc_vc.specs.Environments.{EnvTree, Source, tree_named, read_one, read_two, IsSource, IsBelowEnv}
use Rattle.jesc_vc.specs.Encodings.{ScopeTree, Encoded, plain, beside, mapped, symbol_in, choice_facts}
use Rattle.jesc_vc.proofs.Below.{below_later, claim_later}
use Rattle.jesc_vc.proofs.States.{core_symbol, core_symbol_below, worth_as_core, two_is_read, source_known, source_later, named_below, named_in}
use Rattle.jesc_vc.proofs.Scopes.{IsScope, scope_later, symbol_below}
use Rattle.jesc_vc.proofs.Saying.{st, Says, Free, without_facts, saying_less, pair}
use Rattle.jesc_vc.proofs.Choosing.{choosing}

module _ (reading : Reading) (fields : ℕ) where
  -- what a term is made of holds nothing from the next number on, and it is worth what the core's term is
  pub record IsTerm (c : ℕ) (env : EnvTree) (k : ScopeTree) (t : TermTree) (m : Encoded Term) : Type 0 where
    pub says : Says reading fields c env k m.facts m.next (Free reading fields) (λ w. value w m.out ≡ core.value reading t (st reading fields w env))
    pub out : IsBelow m.next (length k.sorts) m.out

  pub record AreTerms (c : ℕ) (env : EnvTree) (k : ScopeTree) (ts : TermTrees) (m : Encoded (List Term)) : Type 0 where
    pub says : Says reading fields c env k m.facts m.next (Free reading fields) (λ w. map (value w) m.out ≡ core.values reading ts (st reading fields w env))
    pub out : AreBelow m.next (length k.sorts) m.out
    pub count : length m.out ≡ term_count ts

  pub record IsFormula (c : ℕ) (env : EnvTree) (k : ScopeTree) (f : FormulaTree) (m : Encoded (Claim Term)) : Type 0 where
    pub says : Says reading fields c env k m.facts m.next (Free reading fields) (λ w. is_true w m.out ≡ core.is_true reading f (st reading fields w env))
    pub out : Each (IsBelow m.next (length k.sorts)) m.out

  module _ (c : ℕ) (env : EnvTree) (k : ScopeTree) (h : IsScope c k) (b : IsBelowEnv fields c (length k.sorts) env) where
    pub number_case : (n : ℤ) → IsTerm c env k (TermTree.number n) (plain (number n) c)
    number_case n = record { says = without_facts reading fields c env k (Free reading fields) (λ w. value w (number n) ≡ n) h (λ w r. refl); out = tt }

    pub variable_case : (x : ℕ) → IsTerm c env k (TermTree.variable x) (plain (env.variables x) c)
    variable_case x = record { says = without_facts reading fields c env k (Free reading fields) (λ w. value w (env.variables x) ≡ core.value reading (TermTree.variable x) (st reading fields w env)) h (λ w r. refl); out = b.variables x }

    pub applied_case : (symbol : ℕ) (args : TermTrees) (m : Encoded (List Term)) → Contains core_symbols (symbol, term_count args) → AreTerms c env k args m → IsTerm c env k (TermTree.applied symbol args) (mapped (applied symbol) m)
    applied_case symbol args m p t =
        let q = subst (λ n. Contains core_symbols (symbol, n)) (sym t.count) p in
        let s = core_symbol symbol (length m.out) q in
        record {
          says = saying_less reading fields c env k m.facts m.next (Free reading fields) (Free reading fields) (λ w. map (value w) m.out ≡ core.values reading args (st reading fields w env))
              (λ w. value w (applied symbol m.out) ≡ core.value reading (TermTree.applied symbol args) (st reading fields w env)) h (λ y q. tt)
              (λ w r e. worth_as_core reading w r symbol m.out s ∙ ap (core.worth reading symbol) e) t.says;
          out = core_symbol_below m.next (length k.sorts) symbol m.out s t.out;
        }

    -- a field below the number of fields is read in the heap
    field_read : (w : Structure) (g : HeapName) (f : ℕ) (o : ℤ) → f < fields
        → (let t = tree_named env g in read w (t.field f).0 (pos (t.field f).1 ∷ o ∷ [])) ≡ (let q = core.heap_named (st reading fields w env) g in q.field f o)
    field_read w g f o lt =
        let t = tree_named env g in
        let p : nat_lt f fields ≡ true = grind (arith, nat_tests) in
        sym (ap (λ (q : Heap). q.field f o) (named_in fields w env g) ∙ ap (λ u. if u then read w (t.field f).0 (pos (t.field f).1 ∷ o ∷ []) else pos 0) p)

    one_below : (d : ℕ) (source : Source) (o : Term) → IsSource d source → IsBelow d (length k.sorts) o → IsBelow d (length k.sorts) (read_one source o)
    one_below d source o s ob = (source_known d source s, tt, ob)

    pub field_case : (g : HeapName) (f : ℕ) (object : TermTree) (m : Encoded Term) → f < fields → IsTerm c env k object m
        → IsTerm c env k (TermTree.field g f object) (let t = tree_named env g in mapped (read_one (t.field f)) m)
    field_case g f object m lt t =
        let tree = tree_named env g in
        let s = t.says in
        let below = named_below fields c (length k.sorts) env g b in
        let source = below.field f lt in
        record {
          says = saying_less reading fields c env k m.facts m.next (Free reading fields) (Free reading fields) (λ w. value w m.out ≡ core.value reading object (st reading fields w env))
              (λ w. value w (read_one (tree.field f) m.out) ≡ core.value reading (TermTree.field g f object) (st reading fields w env)) h (λ y q. tt)
              (λ w r e. two_is_read w (tree.field f).0 (pos (tree.field f).1) (value w m.out) source.0 ∙ field_read w g f (value w m.out) lt ∙ ap (λ o. let q = core.heap_named (st reading fields w env) g in q.field f o) e) t.says;
          out = one_below m.next (tree.field f) m.out (source_later c m.next (tree.field f) s.rises source) t.out;
        }

    pub built_case : (g : HeapName) (object : TermTree) (m : Encoded Term) → IsTerm c env k object m
        → IsTerm c env k (TermTree.built g object) (let t = tree_named env g in mapped (read_one t.built) m)
    built_case g object m t =
        let tree = tree_named env g in
        let s = t.says in
        let below = named_below fields c (length k.sorts) env g b in
        let source = below.built in
        record {
          says = saying_less reading fields c env k m.facts m.next (Free reading fields) (Free reading fields) (λ w. value w m.out ≡ core.value reading object (st reading fields w env))
              (λ w. value w (read_one tree.built m.out) ≡ core.value reading (TermTree.built g object) (st reading fields w env)) h (λ y q. tt)
              (λ w r e. two_is_read w tree.built.0 (pos tree.built.1) (value w m.out) source.0
              ∙ sym (ap (λ (q : Heap). q.built (value w m.out)) (named_in fields w env g))
              ∙ ap (λ o. let q = core.heap_named (st reading fields w env) g in q.built o) e) t.says;
          out = one_below m.next tree.built m.out (source_later c m.next tree.built s.rises source) t.out;
        }

    pub top_case : (g : HeapName) → IsTerm c env k (TermTree.top g) (let t = tree_named env g in plain t.top c)
    top_case g =
        let tree = tree_named env g in
        let below = named_below fields c (length k.sorts) env g b in
        record {
          says = without_facts reading fields c env k (Free reading fields) (λ w. value w tree.top ≡ core.value reading (TermTree.top g) (st reading fields w env)) h (λ w r. sym (ap (λ (q : Heap). q.top) (named_in fields w env g)));
          out = below.top;
        }

    pub element_case : (g : HeapName) (array index : TermTree) (m n : Encoded Term) → IsTerm c env k array m → IsTerm m.next env k index n
        → IsTerm c env k (TermTree.element g array index) (let t = tree_named env g in beside (read_two t.element) m n)
    element_case g array index m n s t =
        let tree = tree_named env g in
        let sm = s.says in
        let sn = t.says in
        let below = named_below fields c (length k.sorts) env g b in
        let source = below.element in
        let both = pair reading fields c env k h b m.facts m.next n.facts n.next (Free reading fields) (Free reading fields) (λ w. value w m.out ≡ core.value reading array (st reading fields w env)) (λ w. value w n.out ≡ core.value reading index (st reading fields w env)) s.says t.says in
        record {
          says = saying_less reading fields c env k (m.facts ++ n.facts) n.next (λ y. Free reading fields y × Free reading fields y) (Free reading fields)
              (λ w. (value w m.out ≡ core.value reading array (st reading fields w env)) × (value w n.out ≡ core.value reading index (st reading fields w env)))
              (λ w. value w (read_two tree.element m.out n.out) ≡ core.value reading (TermTree.element g array index) (st reading fields w env)) h (λ y q. (tt, tt))
              (λ w r e. sym (ap (λ (q : Heap). q.element (value w m.out) (value w n.out)) (named_in fields w env g)) ∙ (λ i. let q = core.heap_named (st reading fields w env) g in q.element (e.0 i) (e.1 i))) both;
          out = (source_known n.next tree.element (source_later c n.next tree.element (let p = sm.rises in let q = sn.rises in omega arith) source), tt, below_later m.next n.next (length k.sorts) (length k.sorts) sn.rises (omega arith) m.out s.out, t.out);
        }

    pub choose_case : (f : FormulaTree) (x y : TermTree) (g : Encoded (Claim Term)) (m n : Encoded Term) → IsFormula c env k f g → IsTerm g.next env k x m → IsTerm m.next env k y n
        → IsTerm c env k (TermTree.choose f x y) record { out = symbol_in k n.next; facts = g.facts ++ m.facts ++ n.facts ++ choice_facts k g.out (symbol_in k n.next) m.out n.out; next = suc n.next }
    choose_case f x y g m n r s t =
        let sg = r.says in
        let sm = s.says in
        let sn = t.says in
        let p = sg.rises in
        let q = sm.rises in
        let u = sn.rises in
        let l = length k.sorts in
        let V : Structure → Type 0 = λ w. is_true w g.out ≡ core.is_true reading f (st reading fields w env) in
        let X : Structure → Type 0 = λ w. value w m.out ≡ core.value reading x (st reading fields w env) in
        let Y : Structure → Type 0 = λ w. value w n.out ≡ core.value reading y (st reading fields w env) in
        let first = pair reading fields c env k h b g.facts g.next m.facts m.next (Free reading fields) (Free reading fields) V X r.says s.says in
        let both = pair reading fields c env k h b (g.facts ++ m.facts) m.next n.facts n.next (λ y. Free reading fields y × Free reading fields y) (Free reading fields) (λ w. V w × X w) Y first t.says in
        let all = choosing reading fields c env k h b (g.facts ++ m.facts ++ n.facts) n.next g.out m.out n.out (λ y. (Free reading fields y × Free reading fields y) × Free reading fields y) (λ w. (V w × X w) × Y w) both
        (claim_later g.next n.next l l (omega arith) (omega arith) g.out r.out) (below_later m.next n.next l l u (omega arith) m.out s.out) t.out in
        record {
          says = saying_less reading fields c env k (g.facts ++ m.facts ++ n.facts ++ choice_facts k g.out (symbol_in k n.next) m.out n.out) (suc n.next) (λ y. (Free reading fields y × Free reading fields y) × Free reading fields y) (Free reading fields)
              (λ w. ((V w × X w) × Y w) × (value w (symbol_in k n.next) ≡ (if is_true w g.out then value w m.out else value w n.out)))
              (λ w. value w (symbol_in k n.next) ≡ core.value reading (TermTree.choose f x y) (st reading fields w env)) h (λ y q. ((tt, tt), tt))
              (λ w r e. e.1 ∙ (λ i. if e.0.0.0 i then e.0.0.1 i else e.0.1 i)) all;
          out = symbol_below n.next k (scope_later c n.next k (omega arith) h);
        }

    pub no_terms_case : AreTerms c env k no_terms (plain [] c)
    no_terms_case = record { says = without_facts reading fields c env k (Free reading fields) (λ w. map (value w) [] ≡ []) h (λ w r. refl); out = tt; count = refl }

    pub more_terms_case : (t : TermTree) (ts : TermTrees) (m : Encoded Term) (ms : Encoded (List Term)) → IsTerm c env k t m → AreTerms m.next env k ts ms → AreTerms c env k (more_terms t ts) (beside ◌∷◌ m ms)
    more_terms_case t ts m ms s r =
        let sr = r.says in
        let both = pair reading fields c env k h b m.facts m.next ms.facts ms.next (Free reading fields) (Free reading fields) (λ w. value w m.out ≡ core.value reading t (st reading fields w env)) (λ w. map (value w) ms.out ≡ core.values reading ts (st reading fields w env)) s.says r.says in
        record {
          says = saying_less reading fields c env k (m.facts ++ ms.facts) ms.next (λ y. Free reading fields y × Free reading fields y) (Free reading fields)
              (λ w. (value w m.out ≡ core.value reading t (st reading fields w env)) × (map (value w) ms.out ≡ core.values reading ts (st reading fields w env)))
              (λ w. map (value w) (m.out ∷ ms.out) ≡ core.values reading (more_terms t ts) (st reading fields w env)) h (λ y q. (tt, tt)) (λ w r e i. e.0 i ∷ e.1 i) both;
          out = (below_later m.next ms.next (length k.sorts) (length k.sorts) sr.rises (omega arith) m.out s.out, r.out);
          count = ap suc r.count;
        }
