use Rattle.std.proofs.Common.{◌≡◌, ℕ, List, [], ◌++◌, rules, Bool, true, false, cond, Option, Some, None, option_map, String, string_bytes, Global, IsSome, OnOk, OnErr, Result, Ok, Err, refl, subst, sym, ◌∙◌, ap}
use Rattle.std.proofs.Math.Path.{fun_ext}
use Rattle.std.proofs.lemmas.List.{append-nil}
use Rattle.std.proofs.lemmas.Slice.Eq.{bytes_eq-Decides}
use Rattle.std.proofs.lemmas.Map.Text.{btree_map_updates_text}
use Rattle.std.specs.BTreeMap.{BTreeMap, get_by_text, UpdatesBy, WritesThrough}
use Rattle.std.specs.Cmp.Lexicographic.{slice_cmp}
use Rattle.std.specs.Map.{update}
use Rattle.std.specs.Ordering.{nat_cmp}
use Rattle.std.specs.Str.{bytes_eq}
use Rattle.std.specs.String.{string_cmp}
use Rattle.jesc_io.specs.declared.memory.Memory.{Memory}
use Rattle.jesc_io.specs.Memory.{store_of}
use Rattle.jesc_io.specs.Contents.{Store, grown, grown_at, added}

same_cond : {A : Type 0} (b : Bool) (x y : A) → (b ≡ true → x ≡ y) → cond b x y ≡ y
same_cond true x y h = h refl
same_cond false x y h = refl

same_map : {A : Type 0} (f : A → A) (o : Option A) → ((a : A) → f a ≡ a) → option_map f o ≡ o
same_map f None h = refl
same_map f (Some a) h = ap Some (h a)

pub update_own : (content : List ℕ → Option (List ℕ)) (name : List ℕ) → update bytes_eq content name (content name) ≡ content
update_own content name = fun_ext (λ q. same_cond (bytes_eq name q) (content name) (content q) (λ e. ap content ((bytes_eq-Decides name q).0 e)))

pub grown_none : (content : List ℕ → Option (List ℕ)) (name : List ℕ) → grown content name [] ≡ content
grown_none content name = ap (update bytes_eq content name) (same_map (λ bytes. bytes ++ []) (content name) append-nil) ∙ update_own content name

grown_at_none : (content : List ℕ → Option (List ℕ)) (writing : Option (List ℕ)) → grown_at content writing [] ≡ content
grown_at_none content None = refl
grown_at_none content (Some name) = grown_none content name

-- a put of nothing changes nothing
pub added_none : (s : Store) → added [] s ≡ s
added_none s = ap (λ content. let next : Store = record { content = content; reading = s.reading; writing = s.writing } in next) (grown_at_none s.content s.writing)

-- what a map holds after a value was set
pub content_set : {Y : Type 0} (bs : List ℕ) (m n : BTreeMap (String Y) (List ℕ)) (w : Option (List ℕ)) → UpdatesBy string_cmp (λ k. slice_cmp nat_cmp bs (string_bytes k)) m n w
    → get_by_text n ≡ update bytes_eq (get_by_text m) bs w
content_set bs m n w u = fun_ext (btree_map_updates_text bs m n w u)

-- the store of this memory with other files
abbrev pub with_files : Memory → BTreeMap (String Global) (List ℕ) → Store
with_files m files = store_of (record { alloc = m.alloc; files = files; reading = m.reading; writing = m.writing })

-- a piece was written after the value that a look-up of the open name gave
pub stored : (m : Memory) (files : BTreeMap (String Global) (List ℕ)) (name : String Global) (bs old new piece : List ℕ)
    → m.writing ≡ Some name → bs ≡ string_bytes name → Some old ≡ get_by_text m.files bs
    → WritesThrough string_cmp (λ k. slice_cmp nat_cmp bs (string_bytes k)) m.files new files
    → new ≡ old ++ piece
    → with_files m files ≡ added piece (store_of m)
stored m files name bs old new piece is key value writes e =
    let sets = content_set bs m.files files (Some new) (writes.3 (let there : IsSome (Some old) = search rules in subst IsSome value there)) in
    let some : Some new ≡ option_map (λ bytes. bytes ++ piece) (get_by_text m.files bs) = ap Some e ∙ ap (option_map (λ bytes. bytes ++ piece)) value in
    let grows : get_by_text files ≡ grown (get_by_text m.files) bs piece = sets ∙ ap (update bytes_eq (get_by_text m.files) bs) some in
    let at : grown (get_by_text m.files) bs piece ≡ grown_at (get_by_text m.files) (option_map string_bytes m.writing) piece =
    ap (λ b. grown (get_by_text m.files) b piece) key ∙ ap (λ w. grown_at (get_by_text m.files) (option_map string_bytes w) piece) (sym is) in
    ap (λ content. let next : Store = record { content = content; reading = (store_of m).reading; writing = (store_of m).writing } in next) (grows ∙ at)

pub kept : (m : Memory) (files : BTreeMap (String Global) (List ℕ)) (bs old new : List ℕ)
    → Some old ≡ get_by_text m.files bs
    → WritesThrough string_cmp (λ k. slice_cmp nat_cmp bs (string_bytes k)) m.files new files
    → new ≡ old
    → with_files m files ≡ store_of m
kept m files bs old new value writes e =
    let sets = content_set bs m.files files (Some new) (writes.3 (let there : IsSome (Some old) = search rules in subst IsSome value there)) in
    let some : Some new ≡ get_by_text m.files bs = ap Some e ∙ value in
    ap (λ content. let next : Store = record { content = content; reading = (store_of m).reading; writing = (store_of m).writing } in next)
    (sets ∙ ap (update bytes_eq (get_by_text m.files) bs) some ∙ update_own (get_by_text m.files) bs)

pub then_ok : {T E P Q : Type 0} (r : Result T E) → (P → Q) → OnOk r P → OnOk r Q
then_ok (Ok v) f p = f p
then_ok (Err e) f p = tt

pub then_err : {T E P Q : Type 0} (r : Result T E) → (P → Q) → OnErr r P → OnErr r Q
then_err (Ok v) f p = tt
then_err (Err e) f p = f p
