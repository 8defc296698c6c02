-- What grows with a line: the version that has its classes, and the classes that are added.
use Rattle.std.proofs.Common.{◌≡◌, ℕ, zero, suc, ◌<◌, ◌≤◌, true, false, List, [], ◌∷◌, ◌++◌, length, get_or, take, inl, inr, Option, Some, None, is_some, refl, ap, sym, ◌∙◌, subst, arith, nat_eq, true≢false, if◌then◌else◌, append_assoc, append-nil}
use Rattle.std.proofs.lemmas.List.{length-append, length-take, get_or-take}
use Rattle.std.proofs.lemmas.List.Elements.{Contains-append_left, Contains-append_right, Contains-append_cases}
use Rattle.std.proofs.Math.Seq.{get_or-append_seam, take-append_seam, take-length}
use Rattle.std.specs.List.{Contains, list_any}
use Rattle.jesc_classes.specs.laws.Orders.{same, here, first_or_later, nothing}
use Rattle.jesc_lookup.specs.declared.lines.Line.{Line}
use Rattle.jesc_lookup.specs.Lines.{merged}
use Rattle.jesc_lookup.specs.LineSets.{mark, Marks, map_in, added, gaps, Grows, Merges, Meets}
use Rattle.jesc_lookup.specs.Maps.{Map, at, with_at}
use Rattle.jesc_lookup.specs.laws.Lines.{both_ways, contained, step_in, step_out, tested}
use Rattle.jesc_lookup.proofs.TrieSteps.{begins_too}

-- ---- what is added to a line

pub added_in : (line : List ℕ) (x : ℕ) (xs : List ℕ) → list_any (nat_eq x) line ≡ true → added line (x ∷ xs) ≡ added line xs
added_in line x xs e = ap (λ b. if b then added line xs else (x ∷ added (line ++ x ∷ []) xs)) e

pub added_out : (line : List ℕ) (x : ℕ) (xs : List ℕ) → list_any (nat_eq x) line ≡ false → added line (x ∷ xs) ≡ x ∷ added (line ++ x ∷ []) xs
added_out line x xs e = ap (λ b. if b then added line xs else (x ∷ added (line ++ x ∷ []) xs)) e

pub merged_is : (line xs : List ℕ) → merged line xs ≡ line ++ added line xs
merged_is line [] = sym (append-nil line)
merged_is line (x ∷ xs) = elim (both_ways (list_any (nat_eq x) line)) [
  | inl e ↦ step_in line x xs e ∙ merged_is line xs ∙ ap (λ ys. line ++ ys) (sym (added_in line x xs e))
  | inr e ↦
      step_out line x xs e ∙ merged_is (line ++ x ∷ []) xs ∙ append_assoc line (x ∷ []) (added (line ++ x ∷ []) xs)
      ∙ ap (λ ys. line ++ ys) (sym (added_out line x xs e))
]

pub added_append : (line xs ys : List ℕ) → added line (xs ++ ys) ≡ added line xs ++ added (line ++ added line xs) ys
added_append line [] ys = ap (λ l. added l ys) (sym (append-nil line))
added_append line (x ∷ xs) ys = elim (both_ways (list_any (nat_eq x) line)) [
  | inl e ↦ added_in line x (xs ++ ys) e ∙ added_append line xs ys ∙ ap (λ zs. zs ++ added (line ++ zs) ys) (sym (added_in line x xs e))
  | inr e ↦
      added_out line x (xs ++ ys) e ∙ ap (λ zs. x ∷ zs) (added_append (line ++ x ∷ []) xs ys)
      ∙ ap (λ l. x ∷ (added (line ++ x ∷ []) xs ++ added l ys)) (append_assoc line (x ∷ []) (added (line ++ x ∷ []) xs))
      ∙ ap (λ zs. zs ++ added (line ++ zs) ys) (sym (added_out line x xs e))
]

-- ---- marks

none_or_some : (value : ℕ) → None ≡ Some value → ⊥
none_or_some value h = cc

pub none_of : (o : Option ℕ) → is_some o ≡ false → o ≡ None
none_of None e = refl
none_of (Some x) e = absurd (true≢false e)

pub some_of : (o : Option ℕ) → is_some o ≡ true → (value : ℕ) × (o ≡ Some value)
some_of None e = absurd (true≢false (sym e))
some_of (Some x) e = (x, refl)

pub unmarked : (m : Map) (line : List ℕ) (class : ℕ) → Marks m line → at m class ≡ None → list_any (nat_eq class) line ≡ false
unmarked m line class marks e = elim (both_ways (list_any (nat_eq class) line)) [
  | inl t ↦ absurd (none_or_some 0 (sym e ∙ marks class ∙ ap (λ b. if b then Some 0 else None) t))
  | inr f ↦ f
]

pub marked : (m : Map) (line : List ℕ) (class value : ℕ) → Marks m line → at m class ≡ Some value → list_any (nat_eq class) line ≡ true
marked m line class value marks e = elim (both_ways (list_any (nat_eq class) line)) [
  | inl t ↦ t
  | inr f ↦ absurd (none_or_some value (sym (sym e ∙ marks class ∙ ap (λ b. if b then Some 0 else None) f)))
]

pub size_with : (m : Map) (key value : ℕ) → length (with_at m key value) ≡ length m
size_with [] key value = refl
size_with (x ∷ m) zero value = refl
size_with (x ∷ m) (suc key) value = ap suc (size_with m key value)

at_same : (m : Map) (key value : ℕ) → key < length m → at (with_at m key value) key ≡ Some value
at_same [] key value l = absurd (omega (arith, l))
at_same (x ∷ m) zero value l = refl
at_same (x ∷ m) (suc key) value l = at_same m key value (omega (arith, l))

at_other : (m : Map) (key value d : ℕ) → (d ≡ key → ⊥) → at (with_at m key value) d ≡ at m d
at_other [] key value d n = refl
at_other (x ∷ m) zero value zero n = absurd (n refl)
at_other (x ∷ m) zero value (suc d) n = refl
at_other (x ∷ m) (suc key) value zero n = refl
at_other (x ∷ m) (suc key) value (suc d) n = at_other m key value d (λ e. n (omega (arith, e)))

-- membership decides the test
pub same_test : (xs ys : List ℕ) (d : ℕ) → (Contains xs d → Contains ys d) → (Contains ys d → Contains xs d) → list_any (nat_eq d) xs ≡ list_any (nat_eq d) ys
same_test xs ys d f g = elim (both_ways (list_any (nat_eq d) xs)) [
  | inl t ↦ t ∙ sym (tested ys d (f (contained xs d t)))
  | inr n ↦ elim (both_ways (list_any (nat_eq d) ys)) [
    | inl t ↦ absurd (true≢false (sym (tested xs d (g (contained ys d t))) ∙ n))
    | inr m ↦ n ∙ sym m
  ]
]

pub same_marks : (m : Map) (xs ys : List ℕ) → ((d : ℕ) → Contains xs d → Contains ys d) → ((d : ℕ) → Contains ys d → Contains xs d) → Marks m xs → Marks m ys
same_marks m xs ys f g marks d = marks d ∙ ap (λ b. if b then Some 0 else None) (same_test xs ys d (f d) (g d))

pub marks_more : (m : Map) (line : List ℕ) (key : ℕ) → key < length m → Marks m line → Marks (with_at m key 0) (line ++ key ∷ [])
marks_more m line key l marks d = elim (same d key) [
  | inl e ↦
      subst (λ x. at (with_at m key 0) x ≡ mark (line ++ key ∷ []) x) (sym e)
      (at_same m key 0 l ∙ sym (ap (λ b. if b then Some 0 else None) (tested (line ++ key ∷ []) key (Contains-append_right line (key ∷ []) key (here key [])))))
  | inr n ↦ at_other m key 0 d n ∙ marks d ∙ ap (λ b. if b then Some 0 else None) (same_test line (line ++ key ∷ []) d (Contains-append_left line (key ∷ []) d) (λ c. elim (Contains-append_cases line (key ∷ []) d c) [
    | inl k ↦ k
    | inr k ↦ elim (first_or_later key [] d k) [ inl e ↦ absurd (n (sym e)) | inr v ↦ absurd (nothing d v) ]
  ]))
]

gap_less : (m : Map) (key value : ℕ) → key < length m → at m key ≡ None → gaps (with_at m key value) < gaps m
gap_less [] key value l e = absurd (omega (arith, l))
gap_less (None ∷ m) zero value l e = omega arith
gap_less (Some x ∷ m) zero value l e = absurd (no e)
  where
    no : Some x ≡ None → ⊥
    no h = cc
gap_less (None ∷ m) (suc key) value l e = let r = gap_less m key value (omega (arith, l)) e in omega (arith, r)
gap_less (Some x ∷ m) (suc key) value l e = gap_less m key value (omega (arith, l)) e

-- ---- the versions

-- the first are those
abbrev pub Begins : List Map → List Map → Type 0
Begins old new = take (length old) new ≡ old

pub no_fewer : (old new : List Map) → Begins old new → length old ≤ length new
no_fewer old new b = omega (arith, length-take (length old) new, ap length b)

pub old_map : (old new : List Map) (version : ℕ) → Begins old new → version < length old → get_or new version [] ≡ get_or old version []
old_map old new version b l = sym (get_or-take (length old) new version [] l) ∙ ap (λ ms. get_or ms version []) b

pub begins_more : (a b c : List Map) → Begins a b → Begins b c → Begins a c
begins_more a b c f g = begins_too a b c f g

-- ---- growth

pub grows_itself : (old : List Map) (a : Line) → a.version < length old → Grows old a old a
grows_itself old a l = record { kept = take-length old; extra = take-length a.extra; there = l; size = refl }

pub grows_more : (old : List Map) (a : Line) (mid : List Map) (b : Line) (new : List Map) (c : Line) → Grows old a mid b → Grows mid b new c → Grows old a new c
grows_more old a mid b new c f g = record {
  kept = begins_too old mid new f.kept g.kept;
  extra = begins_too a.extra b.extra c.extra f.extra g.extra;
  there = g.there;
  size = g.size ∙ f.size;
}

pub merges_none : (old : List Map) (a : Line) → a.version < length old → Merges old a old a []
merges_none old a l = record {
  grows = grows_itself old a l;
  extra = λ line m. sym (append-nil a.extra);
  marks = λ line m. subst (Marks (map_in old a)) (sym (append-nil line)) m;
}

pub merges_more : (old : List Map) (a : Line) (mid : List Map) (b : Line) (new : List Map) (c : Line) (xs ys : List ℕ) → Merges old a mid b xs → Merges mid b new c ys → Merges old a new c (xs ++ ys)
merges_more old a mid b new c xs ys f g = record {
  grows = grows_more old a mid b new c f.grows g.grows;
  extra = λ line m.
      g.extra (line ++ added line xs) (f.marks line m) ∙ ap (λ e. e ++ added (line ++ added line xs) ys) (f.extra line m)
      ∙ append_assoc a.extra (added line xs) (added (line ++ added line xs) ys) ∙ ap (λ e. a.extra ++ e) (sym (added_append line xs ys));
  marks = λ line m.
      subst (Marks (map_in new c)) (append_assoc line (added line xs) (added (line ++ added line xs) ys) ∙ ap (λ e. line ++ e) (sym (added_append line xs ys)))
      (g.marks (line ++ added line xs) (f.marks line m));
}

-- ---- one class

pub meets_old : (old : List Map) (a : Line) (class value : ℕ) → a.version < length old → at (map_in old a) class ≡ Some value → Meets old a old a class false
meets_old old a class value l e = record {
  merges = record {
    grows = grows_itself old a l;
    extra = λ line m. sym (ap (λ xs. a.extra ++ xs) (added_in line class [] (marked (map_in old a) line class value m e)) ∙ append-nil a.extra);
    marks = λ line m. subst (Marks (map_in old a)) (sym (ap (λ xs. line ++ xs) (added_in line class [] (marked (map_in old a) line class value m e)) ∙ append-nil line)) m;
  };
  fewer = λ t. absurd (true≢false (sym t));
  more = λ t. absurd (true≢false (sym t));
  same = λ t. refl;
  is_old = λ line m. marked (map_in old a) line class value m e;
}

pub meets_new : (old : List Map) (a : Line) (new : List Map) (b : Line) (class : ℕ) → class < length (map_in old a) → at (map_in old a) class ≡ None →
    new ≡ old ++ with_at (map_in old a) class 0 ∷ [] → b.version ≡ length old → b.extra ≡ a.extra ++ class ∷ [] → Meets old a new b class true
meets_new old a new b class l e is_new is_version is_extra = record {
  merges = record {
    grows = record {
      kept = ap (take (length old)) is_new ∙ take-append_seam old (with_at (map_in old a) class 0 ∷ []);
      extra = ap (take (length a.extra)) is_extra ∙ take-append_seam a.extra (class ∷ []);
      there = omega (arith, is_version, ap length is_new, length-append old (with_at (map_in old a) class 0 ∷ []));
      size = ap length is_map ∙ size_with (map_in old a) class 0;
    };
    extra = λ line m. is_extra ∙ ap (λ xs. a.extra ++ xs) (sym (added_out line class [] (unmarked (map_in old a) line class m e)));
    marks = λ line m.
        subst (Marks (map_in new b)) (ap (λ xs. line ++ xs) (sym (added_out line class [] (unmarked (map_in old a) line class m e))))
        (subst (λ x. Marks x (line ++ class ∷ [])) (sym is_map) (marks_more (map_in old a) line class l m));
  };
  more = λ t. is_extra;
  same = λ t. absurd (true≢false t);
  fewer = λ t. subst (λ x. gaps x < gaps (map_in old a)) (sym is_map) (gap_less (map_in old a) class 0 l e);
  is_old = λ line m. unmarked (map_in old a) line class m e;
}
  where
    is_map : map_in new b ≡ with_at (map_in old a) class 0
    is_map = ap (λ v. get_or new v []) is_version ∙ ap (λ ms. get_or ms (length old) []) is_new ∙ get_or-append_seam old (with_at (map_in old a) class 0) [] []
