-- The table of methods, filled one method after another.
use Rattle.std.proofs.Common.{◌≡◌, ℕ, zero, suc, ◌+◌, ◌-◌, ◌<◌, ◌≤◌, Bool, true, false, true≢false, ◌||◌, nat_lt, ltb-true, if◌then◌else◌, List, [], ◌∷◌, ◌++◌, map, take, length, get_or, Some, slice_get, refl, ap, sym, ◌∙◌, subst, arith, append_assoc, length-append}
use Rattle.std.proofs.lemmas.List.{length-map, get_or_default}
use Rattle.std.specs.List.{AllZip}
use Rattle.jesc_tree.specs.declared.class.Method.{Method}
use Rattle.jesc_classes.specs.declared.source.GivenClass.{GivenClass}
use Rattle.jesc_classes.specs.Headings.{Source}
use Rattle.jesc_classes.specs.Sources.{seen}
use Rattle.jesc_classes.specs.laws.Lawful.{there, of_each}
use Rattle.jesc_names.specs.Program.{Callable, IsMethod, callables_at, callables_of, joined}
use Rattle.jesc_names.specs.TablesRows.{Adds}
use Rattle.jesc_names.proofs.TablesZips.{zip_push, zip_length, joined_more, map_more}

module _ (given : List Source) (order : List ℕ) where
  pub adds_one : (k : Callable) (x : Method) (old new : List Method) → IsMethod given order k x → new ≡ old ++ x ∷ [] → Adds given order (k ∷ []) old new
  adds_one k x old new is e before h = subst (AllZip (IsMethod given order) (before ++ k ∷ [])) (sym e) (zip_push (IsMethod given order) before old k x h is)

  pub adds_both : (ks more : List Callable) (old mid new : List Method) → Adds given order ks old mid → Adds given order more mid new → Adds given order (ks ++ more) old new
  adds_both ks more old mid new f g before h = subst (λ ls. AllZip (IsMethod given order) ls new) (append_assoc before ks more) (g (before ++ ks) (f before h))

  pub adds_more : {A : Type 0} (f : A → List Callable) (xs : List A) (i : ℕ) (x : A) (old mid new : List Method) → i < length xs → x ≡ get_or xs i x → Adds given order (joined (map f (take i xs))) old mid → Adds given order (f x) mid new → Adds given order (joined (map f (take (i + 1) xs))) old new
  adds_more f xs i x old mid new l e g h = subst (λ ks. Adds given order ks old new) (sym (joined_more f xs i x l e)) (adds_both (joined (map f (take i xs))) (f x) old mid new g h)

  pub adds_length : (before ks : List Callable) (old new : List Method) → AllZip (IsMethod given order) before old → Adds given order ks old new → length new ≡ length old + length ks
  adds_length before ks old new h f =
      let one = zip_length (IsMethod given order) before old h in
      let two = zip_length (IsMethod given order) (before ++ ks) new (f before h) in
      omega (arith, one, two, length-append before ks)

  module _ (i : ℕ) (inside : i < length order) where
    number : ℕ
    number = get_or order i 0

    is : get_or order i 0 ≡ get_or order i (get_or order i 0)
    is = get_or_default order i 0 (get_or order i 0) inside

    pub rows_more : (old new : List Method) → AllZip (IsMethod given order) (joined (map (callables_at given) (take i order))) old → Adds given order (callables_at given (get_or order i 0)) old new
        → AllZip (IsMethod given order) (joined (map (callables_at given) (take (i + 1) order))) new
    rows_more old new h f = subst (λ ks. AllZip (IsMethod given order) ks new) (sym (joined_more (callables_at given) order i (get_or order i 0) inside is)) (f (joined (map (callables_at given) (take i order))) h)

    pub sizes_more : (old new : List ℕ) (n : ℕ) → old ≡ map (λ class. length (callables_at given class)) (take i order) → new ≡ old ++ n ∷ [] → n ≡ length (callables_at given (get_or order i 0))
        → new ≡ map (λ class. length (callables_at given class)) (take (i + 1) order)
    sizes_more old new n e f g =
        f ∙ ap (λ xs. xs ++ n ∷ []) e ∙ ap (λ m. map (λ class. length (callables_at given class)) (take i order) ++ m ∷ []) g
        ∙ sym (map_more (λ class. length (callables_at given class)) order i (get_or order i 0) inside is)

pub one_there : (k : Callable) (a b : Bool) → a ≡ false → b ≡ false → (if (a || b) then [] else (k ∷ [])) ≡ k ∷ []
one_there k true b e f = absurd (true≢false e)
one_there k false true e f = absurd (true≢false f)
one_there k false false e f = refl

pub class_there : (list : List GivenClass) (given : List Source) (n : ℕ) (x : GivenClass) → map seen list ≡ given → 7 ≤ n → n < length given + 7 → x ≡ get_or list (n - 7) x → slice_get given (n - 7) ≡ Some (seen x)
class_there list given n x e low high is =
    let same : length (map seen list) ≡ length given = ap (λ (ss : List Source). length ss) e in
    let inner : n - 7 < length list = omega (arith, low, high, same, length-map list seen) in
    subst (λ ss. slice_get ss (n - 7) ≡ Some (seen x)) e (of_each seen list (n - 7) x (there list (n - 7) x inner ∙ ap (λ y. Some y) (sym is)))

high_is : (n : ℕ) → 7 ≤ n → nat_lt n 7 ≡ false
high_is n l = by (nat_lt n 7) refl
  where
    by : (b : Bool) → nat_lt n 7 ≡ b → nat_lt n 7 ≡ false
    by true e = let m = ltb-true n 7 e in absurd (omega (arith, l, m))
    by false e = e

pub callables_given : (given : List Source) (n : ℕ) (s : Source) → 7 ≤ n → slice_get given (n - 7) ≡ Some s → callables_at given n ≡ callables_of n s
callables_given given zero s l e = absurd (omega (arith, l))
callables_given given (suc zero) s l e = absurd (omega (arith, l))
callables_given given (suc (suc zero)) s l e = absurd (omega (arith, l))
callables_given given (suc (suc (suc zero))) s l e = absurd (omega (arith, l))
callables_given given (suc (suc (suc (suc zero)))) s l e = absurd (omega (arith, l))
callables_given given (suc (suc (suc (suc (suc zero))))) s l e = absurd (omega (arith, l))
callables_given given (suc (suc (suc (suc (suc (suc zero)))))) s l e = absurd (omega (arith, l))
callables_given given (suc (suc (suc (suc (suc (suc (suc k))))))) s l e =
    let at : suc (suc (suc (suc (suc (suc (suc k)))))) - 7 ≡ k = omega arith in
    let found = of_each (λ (x : Source). x) given k s (subst (λ j. slice_get given j ≡ Some s) at e) in
    let high = high_is (suc (suc (suc (suc (suc (suc (suc k))))))) l in
    rw (high, found) refl
