use Rattle.std.proofs.Common.{◌≡◌, ℕ, ◌+◌, ◌≤◌, ◌<◌, List, [], ◌++◌, length, take, drop, Option, Some, None, option_map, IfSome, Ok, refl, sym, ◌∙◌, ap, subst, arith, length-take-le, length-append, length-drop}
use Rattle.std.proofs.Math.Seq.{take-add}
use Rattle.std.proofs.lemmas.List.{take_all}
use Rattle.jesc_io.specs.Contents.{Store, bytes_at, reading_at, moved, at_rest, Reads, SameContents}

-- since before, this file was opened and all of this was read of it
pub record HasRead (before now : Option Store) (name all : List ℕ) : Type 0 where
  pub place : now ≡ option_map (reading_at name (length all)) before
  pub front : IfSome before (λ s. (all ≡ take (length all) (bytes_at name s)) × (length all ≤ length (bytes_at name s)))

begun_at : (before : Option Store) (name : List ℕ) → IfSome before (λ s. ([] ≡ take 0 (bytes_at name s)) × (0 ≤ length (bytes_at name s)))
begun_at None name = tt
begun_at (Some s) name = (refl, omega arith)

pub has_begun : (before now : Option Store) (name : List ℕ) → now ≡ option_map (reading_at name 0) before → HasRead before now name []
has_begun before now name e = record { place = e; front = begun_at before name }

length_read : (all into : List ℕ) (count : ℕ) → count ≤ length into → length (all ++ take count into) ≡ length all + count
length_read all into count within = omega (arith, length-append all (take count into), length-take-le count into within)

front_more : (w all into : List ℕ) (count : ℕ) → all ≡ take (length all) w → take count into ≡ take count (drop (length all) w)
    → all ++ take count into ≡ take (length all + count) w
front_more w all into count e g = let t = take-add (length all) count w in cc

pub has_read_more : (before now next : Option Store) (name all into : List ℕ) (count : ℕ) → HasRead before now name all
    → Reads now next into (Ok count) → count ≤ length into → HasRead before next name (all ++ take count into)
has_read_more None now next name all into count h r within =
    record { place = (subst (λ n. Reads n next into (Ok count)) h.place r).0; front = tt }
has_read_more (Some s) now next name all into count h r within =
    let r' : Reads (Some (reading_at name (length all) s)) next into (Ok count) = subst (λ n. Reads n next into (Ok count)) h.place r in
    let len : length (all ++ take count into) ≡ length all + count = length_read all into count within in
    record {
      place = r'.0 ∙ ap (λ n. Some (reading_at name n s)) (sym len);
      front = (
        subst (λ n. all ++ take count into ≡ take n (bytes_at name s)) (sym len) (front_more (bytes_at name s) all into count h.front.0 r'.1.next),
        (let there : count ≤ length (drop (length all) (bytes_at name s)) = r'.1.there in
            let within_all : length all ≤ length (bytes_at name s) = h.front.1 in
            omega (arith, len, length-drop (length all) (bytes_at name s))),
      );
    }

pub is_whole : (before now next : Option Store) (name all into : List ℕ) → HasRead before now name all
    → Reads now next into (Ok 0) → 0 < length into → IfSome before (λ s. all ≡ bytes_at name s)
is_whole None now next name all into h r room = tt
is_whole (Some s) now next name all into h r room =
    let r' : Reads (Some (reading_at name (length all) s)) next into (Ok 0) = subst (λ n. Reads n next into (Ok 0)) h.place r in
    let none : drop (length all) (bytes_at name s) ≡ [] = r'.1.last refl room in
    let short : length (bytes_at name s) ≤ length all = omega (arith, ap length none, length-drop (length all) (bytes_at name s)) in
    h.front.0 ∙ take_all (length all) (bytes_at name s) short

pub is_long : (before now : Option Store) (name all : List ℕ) (n : ℕ) → HasRead before now name all → n < length all → IfSome before (λ s. n < length (bytes_at name s))
is_long None now name all n h long = tt
is_long (Some s) now name all n h long = let within : length all ≤ length (bytes_at name s) = h.front.1 in omega arith

rests_opened : (told : Option Store) (name : List ℕ) (place : ℕ) → option_map at_rest (option_map (reading_at name place) told) ≡ option_map at_rest told
rests_opened None name place = refl
rests_opened (Some s) name place = refl

rests_moved : (told : Option Store) (count : ℕ) → option_map at_rest (option_map (moved count) told) ≡ option_map at_rest told
rests_moved None count = refl
rests_moved (Some s) count = refl

pub same_read : (before now : Option Store) (name all : List ℕ) → HasRead before now name all → SameContents before now
same_read before now name all h = ap (option_map at_rest) h.place ∙ rests_opened before name (length all)

-- a read keeps the contents
pub same_next : (before now next : Option Store) (name all into : List ℕ) (count : ℕ) → HasRead before now name all → Reads now next into (Ok count) → SameContents before next
same_next before now next name all into count h r = ap (option_map at_rest) r.0 ∙ rests_moved now count ∙ same_read before now name all h

pub same_error : (before now next : Option Store) (name all : List ℕ) → HasRead before now name all → next ≡ now → SameContents before next
same_error before now next name all h e = ap (option_map at_rest) e ∙ same_read before now name all h
