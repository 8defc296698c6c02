-- What the tests of the rules say, and what the relations do.
use Rattle.std.proofs.Common.{◌≡◌, ◌↔◌, ◌⊎◌, ℕ, ℤ, ◌<ℤ◌, int_le, int_lt, Bool, true, false, not, ◌&&◌, true≢false, Option, Some, None, Ok, Err, List, [], ◌∷◌, length, inl, inr, arith, refl, sym, subst, ap, ◌∙◌, if◌then◌else◌}
use Rattle.std.specs.List.{All}
use Rattle.std.proofs.lemmas.Bool.{and_from, and_parts}
use Rattle.std.proofs.lemmas.Int.{ints}
use Rattle.std.proofs.lemmas.List.Elements.{All-head, All-tail}
use Rattle.jesc_text.specs.declared.place.Span.{Span}
use Rattle.jesc_ast.specs.declared.word.TypeTree.{TypeTree}
use Rattle.jesc_ast.specs.Trees as ast
use Rattle.jesc_ast.specs.Expressions.{span_of}
use Rattle.jesc_ast.specs.Lines.{place_at}
use Rattle.jesc_classes.specs.Answers.{Checked, Refusal, and_then, refusal}
use Rattle.jesc_classes.specs.declared.rule.Rule.TheVariants.{Y1}
use Rattle.jesc_operands.specs.Deciding.{fits, has_values, is_truth}
use Rattle.jesc_operands.specs.laws.Subtypes.{fits_exactly}
use Rattle.jesc_tree.specs.declared.class.Method.{Method}
use Rattle.jesc_tree.specs.declared.class.Param.{Param}
use Rattle.jesc_tree.specs.declared.ty.Elem.{Elem}
use Rattle.jesc_tree.specs.declared.ty.Ty.{Ty}
use Rattle.jesc_tree.specs.declared.ty.Ty.TheVariants as ty
use Rattle.jesc_tree.specs.Trees as tree
use Rattle.jesc_sites.specs.Arrays.{element_type, is_int, may_call}
use Rattle.jesc_sites.specs.Parts.{first_word, refused_in, type_of}
use Rattle.jesc_sites.specs.Plain.{greatest, may_be_read, may_say_this}
use Rattle.jesc_sites.specs.Sites.{IsSetting, IsType, Setting}
use Rattle.jesc_sites.specs.declared.site.Role.{Role}
use Rattle.jesc_sites.specs.declared.site.Role.TheVariants.{Whole, Qualifier, Negated, Target}
use Rattle.jesc_sites.specs.declared.site.This.{This}
use Rattle.jesc_sites.specs.declared.site.This.TheVariants.{Absent, Guarded, Free}
use Rattle.jesc_references.specs.Calls as calls
use Rattle.jesc_references.specs.Calls.{arguments_fit, is_on_this, is_this, may_be_called, receiver_of, suits}
use Rattle.jesc_references.specs.Fields.{implied_this, is_absent, is_target}
use Rattle.jesc_references.specs.Written.{base_named, type_by, written_type}
use Rattle.jesc_expressions.specs.Typing as typing
use Rattle.jesc_expressions.specs.Typing.{Denotes, HasObject, HasValue, MayBeCalled, MayRead, MaySayThis, Passes, Receives}

pub never : {A : Type 0} → false ≡ true → A
never e = absurd (true≢false (sym e))

-- ---- answers

pub same : {A : Type 0} (x y : A) → ◌≡◌ {A = Checked A} (Ok x) (Ok y) → x ≡ y
same x y e = cc

-- an answer behind a part is one to what the part stands for
pub bind : {A B P : Type 0} (c : Checked A) (f : A → Checked B) (y : B) → and_then c f ≡ Ok y → ((x : A) → c ≡ Ok x → f x ≡ Ok y → P) → P
bind (Ok x) f y e k = k x refl e
bind (Err r) f y e k = absurd (cc)

-- a test that is passed where the answer is no refusal
pub passed : {A : Type 0} (b : Bool) (rest : Checked A) (r : Refusal) (z : A) → (if b then rest else Err r) ≡ Ok z → (b ≡ true) × (rest ≡ Ok z)
passed true rest r z e = (refl, e)
passed false rest r z e = absurd (cc)

pub not_failed : {A : Type 0} (b : Bool) (rest : Checked A) (r : Refusal) (z : A) → (if not b then Err r else rest) ≡ Ok z → (b ≡ true) × (rest ≡ Ok z)
not_failed true rest r z e = (refl, e)
not_failed false rest r z e = absurd (cc)

pub not_broken : {A : Type 0} (b : Bool) (rest : Checked A) (r : Refusal) (z : A) → (if b then Err r else rest) ≡ Ok z → (b ≡ false) × (rest ≡ Ok z)
not_broken true rest r z e = absurd (cc)
not_broken false rest r z e = (refl, e)

-- ---- types

pub int : (t : Ty) → is_int t ≡ true → t ≡ ty.Int
int ty.Int e = refl
int t e = never e

pub truth : (t : Ty) → is_truth t ≡ true → t ≡ ty.Bool
truth ty.Bool e = refl
truth t e = never e

pub no_void : (t : Ty) → has_values t ≡ true → t ≡ ty.Void → ⊥
no_void t e v = true≢false (sym e ∙ ap has_values v)

pub values : (t : Ty) → (t ≡ ty.Void → ⊥) → has_values t ≡ true
values ty.Void n = absurd (n refl)
values t n = refl

-- ---- numbers

below : (a b : ℤ) → int_le a b ≡ true → (a <ℤ b) ⊎ (a ≡ b)
below a b e = by (int_lt a b) refl
  where
    by : (t : Bool) → int_lt a b ≡ t → (a <ℤ b) ⊎ (a ≡ b)
    by true h = inl (omega (arith, ints))
    by false h = inr (omega (arith, ints))

less : (a b : ℤ) → int_lt a b ≡ true → a <ℤ b
less a b e = omega (arith, ints)

is_less : (a b : ℤ) → a <ℤ b → int_lt a b ≡ true
is_less a b l = by (int_lt a b) refl
  where
    by : (t : Bool) → int_lt a b ≡ t → t ≡ true
    by true h = refl
    by false h = absurd (omega (arith, ints))

is_at_most : (a b : ℤ) → a <ℤ b → int_le a b ≡ true
is_at_most a b l = by (int_le a b) refl
  where
    by : (t : Bool) → int_le a b ≡ t → t ≡ true
    by true h = refl
    by false h = absurd (omega (arith, ints))

is_itself : (a : ℤ) → int_le a a ≡ true
is_itself a = by (int_le a a) refl
  where
    by : (t : Bool) → int_le a a ≡ t → t ≡ true
    by true h = refl
    by false h = absurd (omega (arith, ints))

pub read : (role : Role) (text : List ℕ) (n : ℤ) → may_be_read role text n ≡ true → (n <ℤ greatest text) ⊎ ((n ≡ greatest text) × (role ≡ Negated))
read Negated text n e = elim (below n (greatest text) e) [ inl l ↦ inl l | inr h ↦ inr (h, refl) ]
read role text n e = inl (less n (greatest text) e)

pub reads_less : (role : Role) (text : List ℕ) (n : ℤ) → n <ℤ greatest text → may_be_read role text n ≡ true
reads_less Negated text n l = is_at_most n (greatest text) l
reads_less role text n l = is_less n (greatest text) l

pub reads_greatest : (role : Role) (text : List ℕ) → role ≡ Negated → may_be_read role text (greatest text) ≡ true
reads_greatest role text e = subst (λ r. may_be_read r text (greatest text) ≡ true) (sym e) (is_itself (greatest text))

-- ---- `this`

pub says_this : (this : This) (role : Role) → (may_say_this this role ≡ true) ↔ MaySayThis this role
says_this Absent role = (λ e. never e, λ h. elim h [ ])
says_this Guarded Qualifier = (λ e. typing.MaySayThis.guarded, λ h. refl)
says_this Guarded role = (λ e. never e, λ h. elim h [ ])
says_this Free role = (λ e. typing.MaySayThis.free role, λ h. refl)

pub has_object : (this : This) (role : Role) → ((is_absent this && not (is_target role)) ≡ false) ↔ HasObject this role
has_object Absent Target = (λ e. typing.HasObject.target Absent, λ h. refl)
has_object Absent role = (λ e. absurd (true≢false e), λ h. elim h [ ])
has_object Guarded role = (λ e. typing.HasObject.guarded role, λ h. refl)
has_object Free role = (λ e. typing.HasObject.free role, λ h. refl)

-- ---- names

pub may_read : (code : Bool) (role : Role) (b : Bool) → ((code && (b && not (is_target role))) ≡ false) ↔ MayRead code role b
may_read false role b = (λ e. typing.MayRead.in_specification role b, λ h. refl)
may_read true role false = (λ e. typing.MayRead.of_code true role, λ h. refl)
may_read true Target true = (λ e. typing.MayRead.target true true, λ h. refl)
may_read true role true = (λ e. absurd (true≢false e), λ h. elim h [ ])

pub has_value : (in_old b : Bool) → ((in_old && not b) ≡ false) ↔ HasValue in_old b
has_value false b = (λ e. typing.HasValue.now b, λ h. refl)
has_value true true = (λ e. typing.HasValue.parameter true, λ h. refl)
has_value true false = (λ e. absurd (true≢false e), λ h. elim h [ ])

-- ---- calls

pub whole : (code : Bool) (role : Role) → may_call code role ≡ true → (code ≡ true) × (role ≡ Whole)
whole true Whole e = (refl, refl)
whole true role e = never e
whole false role e = never e

pub may_call_whole : (code : Bool) (role : Role) → code ≡ true → role ≡ Whole → may_call code role ≡ true
may_call_whole code role c r = rw (c, r)

-- there are as many arguments as parameters, and each fits
module _ (s : Setting) (known : IsSetting s) where
  pub passes : (ps : List Param) (es : List ast.Expression) (xs : List tree.Expression) → All (λ x. IsType s (type_of x)) xs
      → length ps ≡ length xs → length es ≡ length xs → arguments_fit s.classes s.lines xs ps es ≡ Ok tt → Passes s.classes ps xs
  passes [] es [] within p q e = typing.Passes.none
  passes [] es (x ∷ xs) within p q e = absurd (omega (arith, p))
  passes (p ∷ ps) es [] within c q e = absurd (omega (arith, c))
  passes (p ∷ ps) [] (x ∷ xs) within c q e = absurd (omega (arith, q))
  passes (p ∷ ps) (e ∷ es) (x ∷ xs) within c q h =
      let first = All-head (λ y. IsType s (type_of y)) x xs within in
      let rest = All-tail (λ y. IsType s (type_of y)) x xs within in
      let k = passed_unit (fits s.classes (type_of x) p.ty) (arguments_fit s.classes s.lines xs ps es) e h in
      typing.Passes.one_more p ps x xs ((fits_exactly s.classes s.fields s.methods known.lawful (type_of x) p.ty first).0 k.0) (passes ps es xs rest (omega (arith, c)) (omega (arith, q)) k.1)
    where
      passed_unit : (b : Bool) (rest : Checked (Unit {0})) (e : ast.Expression) → (if b then rest else refused_in Y1 s.lines e) ≡ Ok tt → (b ≡ true) × (rest ≡ Ok tt)
      passed_unit b rest e h = passed b rest (refusal Y1 (place_at s.lines (span_of e)) (first_word e)) tt h

  pub all_pass : (ps : List Param) (es : List ast.Expression) (xs : List tree.Expression) → All (λ x. IsType s (type_of x)) xs
      → Passes s.classes ps xs → arguments_fit s.classes s.lines xs ps es ≡ Ok tt
  all_pass ps es xs within typing.Passes.none = refl
  all_pass ps [] xs within (typing.Passes.one_more p rest x ys f h) = refl
  all_pass ps (e ∷ es) xs within (typing.Passes.one_more p rest x ys f h) =
      let first = All-head (λ y. IsType s (type_of y)) x ys within in
      let others = All-tail (λ y. IsType s (type_of y)) x ys within in
      ap (λ b. if b then arguments_fit s.classes s.lines ys rest es else refused_in Y1 s.lines e) ((fits_exactly s.classes s.fields s.methods known.lawful (type_of x) p.ty first).1 f)
      ∙ all_pass rest es ys others h

  -- ---- what is called

  -- a call on the own object is allowed
  abbrev pub Allowed : calls.Target → Method → Type 0
  Allowed t m = (is_on_this t m && not (may_be_called s.this m)) ≡ false

  called : (this : This) (m : Method) → not (may_be_called this m) ≡ false → MayBeCalled this m
  called Absent m e = absurd (true≢false e)
  called Guarded m e = let h = and_parts m.is_private m.is_helper (not_not (m.is_private && m.is_helper) e) in typing.MayBeCalled.guarded m h.0 h.1
    where
      not_not : (b : Bool) → not b ≡ false → b ≡ true
      not_not true e = refl
      not_not false e = absurd (true≢false e)
  called Free m e = typing.MayBeCalled.free m

  may_be : (this : This) (m : Method) → MayBeCalled this m → may_be_called this m ≡ true
  may_be this m (typing.MayBeCalled.free n) = refl
  may_be this m (typing.MayBeCalled.guarded n p h) = and_from n.is_private n.is_helper p h

  -- what a test that fails says where another is passed
  behind : (a b : Bool) → a ≡ true → (a && b) ≡ false → b ≡ false
  behind a b h e = sym (ap (λ c. c && b) h) ∙ e

  failed : (b : Bool) → not b ≡ true → b ≡ false
  failed true e = never e
  failed false e = refl

  own : (span : Span) (m : Method) (b : Bool) → m.is_static ≡ b → (not b && not (may_be_called s.this m)) ≡ false
      → Receives s span calls.implied m (if b then tree.static else tree.on (implied_this s span))
  own span m true h e = typing.Receives.own_static m h
  own span m false h e = typing.Receives.own m h (called s.this m e)

  on : (span : Span) (x : tree.Expression) (m : Method) (b : Bool) → is_this x ≡ b → m.is_static ≡ false → (b && not (may_be_called s.this m)) ≡ false
      → Receives s span (calls.on x) m (tree.on x)
  on span x m true h k e = typing.Receives.on_this x m h k (called s.this m e)
  on span x m false h k e = typing.Receives.on_other x m h k

  pub receives : (span : Span) (t : calls.Target) (m : Method) → suits t m ≡ true → Allowed t m → Receives s span t m (receiver_of s span t m)
  receives span calls.implied m e h = own span m m.is_static refl h
  receives span calls.super m e h = let k = and_parts (not m.is_static) (not m.is_abstract) e in typing.Receives.super m (failed m.is_static k.0) (failed m.is_abstract k.1) (called s.this m h)
  receives span (calls.of_class c) m e h = typing.Receives.of_class c m e
  receives span (calls.on x) m e h = on span x m (is_this x) refl (failed m.is_static e) h

  pub received : (span : Span) (t : calls.Target) (m : Method) (r : tree.Receiver) → Receives s span t m r → (suits t m ≡ true) × Allowed t m × (receiver_of s span t m ≡ r)
  received span t m r (typing.Receives.own_static n h) = (refl, rw h, rw h)
  received span t m r (typing.Receives.own n h k) = (refl, rw (may_be s.this n k, h), rw h)
  received span t m r (typing.Receives.super n h a k) = (rw (h, a), rw (may_be s.this n k), refl)
  received span t m r (typing.Receives.of_class c n h) = (h, refl, refl)
  received span t m r (typing.Receives.on_this x n h k l) = (rw k, rw (may_be s.this n l, h), refl)
  received span t m r (typing.Receives.on_other x n h k) = (rw k, rw h, refl)

-- ---- written types

module _ (s : Setting) where
  by_array : (t : TypeTree) (e : Elem) (b : Bool) → t.array ≡ b → base_named s.classes t.base ≡ Some e → Denotes s.classes t (if b then ty.Array e else element_type e)
  by_array t e true a h = typing.Denotes.array t e a h
  by_array t e false a h = typing.Denotes.single t e a h

  by_base : (t : TypeTree) (o : Option Elem) (to : Ty) → base_named s.classes t.base ≡ o → type_by s.lines t o ≡ Ok to → Denotes s.classes t to
  by_base t None to h e = absurd (cc)
  by_base t (Some x) to h e = subst (Denotes s.classes t) (same (if t.array then ty.Array x else element_type x) to e) (by_array t x t.array refl h)

  pub denotes : (t : TypeTree) (to : Ty) → written_type s t ≡ Ok to → Denotes s.classes t to
  denotes t to e = by_base t (base_named s.classes t.base) to refl e

  pub denoted : (t : TypeTree) (to : Ty) → Denotes s.classes t to → written_type s t ≡ Ok to
  denoted t to (typing.Denotes.single u x a h) = ap (type_by s.lines u) h ∙ ap (λ b. Ok (if b then ty.Array x else element_type x)) a
  denoted t to (typing.Denotes.array u x a h) = ap (type_by s.lines u) h ∙ ap (λ b. Ok (if b then ty.Array x else element_type x)) a
