use Rattle.std.specs.Map.{lookup}
use Rattle.std.proofs.Common.{◌≡◌, ℕ, Option, false, is_some, refl, true≢false, ◌<◌, ◌++◌, List, [], ◌∷◌, length, slice_get, Some, None, ap, subst, sym, ◌∙◌, arith}
use Rattle.indexmap.proofs.CallerLemmas.{insert_entry-new}
use Rattle.jesc_logic.specs.contracts.terms.NodePartialEq.TheImpl.{eq-value}
use Rattle.jesc_logic.specs.Terms.{Term, Keeps, AreApart, node_term, IsBelow}
use Rattle.jesc_logic.specs.Tables.{Entry, is_open, IsTable, terms_of}
use Rattle.jesc_logic.proofs.Growing.{grown, keeps, is_new, is_last}
use Rattle.jesc_logic.proofs.Found.{absent, found}
use Rattle.jesc_logic.proofs.terms.Terms.intern.Goals as goal
use Rattle.jesc_logic.proofs.terms.Terms.intern.Goals.{In-Ok}

pub returns-in-Some-clause-term : goal.returns-in-Some-clause-term
returns-in-Some-clause-term c =
    let h = found c.args.node c.self.inside.nodes.entries c.in-Some.at c.in-Some.ensures.index in
    let s = c.self.invariant.spelled c.in-Some.at h.0 h.1.0 in
    subst (λ (terms : List Term). slice_get terms c.in-Some.at ≡ Some (node_term terms c.args.node)) c.self.view_is
    (s ∙ ap (λ n. Some (node_term (terms_of c.self.inside.nodes.entries) n)) h.1.1)

is_none : {X : Type 0} (o : Option X) → false ≡ is_some o → o ≡ None
is_none None e = refl
is_none (Some x) e = absurd (true≢false (sym e))

is_absent : (c : In-Ok) → lookup (eq-value.it c.args.node) c.self.inside.nodes.entries ≡ None
is_absent c = is_none _ c.in_default.ensures.found

entries_are : (c : In-Ok) → c.insert.new.self.entries ≡ c.self.inside.nodes.entries ++ (c.args.node, c.args.is_open) ∷ []
entries_are c = c.in-Ok.ensures.entries ∙ insert_entry-new eq-value.it c.self.inside.nodes c.args.node c.args.is_open (is_absent c)

table_is : (c : In-Ok) → IsTable (c.self.inside.nodes.entries ++ (c.args.node, c.args.is_open) ∷ [])
table_is c =
    let entries = c.self.inside.nodes.entries in
    let table = c.self.invariant in
    let below : IsBelow (length (terms_of entries)) c.args.node = subst (λ (ts : List Term). IsBelow (length ts) c.args.node) (sym c.self.view_is) c.requires.below in
    let marked : c.args.is_open ≡ is_open (node_term (terms_of entries) c.args.node) = c.requires.marked ∙ ap (λ (ts : List Term). is_open (node_term ts c.args.node)) (sym c.self.view_is) in
    let short : c.len-at.result < 4294967295 = c.if-at-ge4294967295.false in
    grown entries table (c.args.node, c.args.is_open) (subst (λ (n : ℕ). IsBelow n c.args.node) table.count below) marked (omega (arith, short, c.len-at.ensures.len)) (absent c.args.node entries (is_absent c))

pub invariant_of-self-2 : goal.invariant_of-self-2
invariant_of-self-2 c = subst IsTable (sym (entries_are c)) (table_is c)

pub returns-clause-keeps : goal.returns-clause-keeps
returns-clause-keeps c =
    let entries = c.self.inside.nodes.entries in
    let entry : Entry = (c.args.node, c.args.is_open) in
    subst (λ (es : List Entry). Keeps c.args.self.now (terms_of es)) (sym (entries_are c))
    (subst (λ (old : List Term). Keeps old (terms_of (entries ++ entry ∷ []))) c.self.view_is
    (subst (Keeps (terms_of entries)) (sym (is_new entries c.self.invariant entry)) (keeps entries c.self.invariant entry)))

pub returns-clause-apart : goal.returns-clause-apart
returns-clause-apart c = subst (λ (es : List Entry). AreApart (terms_of es)) (sym (entries_are c)) (table_is c).apart

pub returns-clause-term : goal.returns-clause-term
returns-clause-term c =
    let entries = c.self.inside.nodes.entries in
    let entry : Entry = (c.args.node, c.args.is_open) in
    subst (λ (es : List Entry). slice_get (terms_of es) c.len-at.result ≡ Some (node_term c.args.self.now c.args.node)) (sym (entries_are c))
    (subst (λ (n : ℕ). slice_get (terms_of (entries ++ entry ∷ [])) n ≡ Some (node_term c.args.self.now c.args.node)) (sym c.len-at.ensures.len)
    (is_last entries c.self.invariant entry ∙ ap (λ (ts : List Term). Some (node_term ts c.args.node)) c.self.view_is))
