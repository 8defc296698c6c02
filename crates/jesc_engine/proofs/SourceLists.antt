-- The files that were read so far, and the next one.
use Rattle.std.proofs.Common.{◌≡◌, ℕ, ◌+◌, ◌<◌, ◌≤◌, List, [], ◌∷◌, ◌++◌, length, take, drop, get_or, map, Option, sym, ◌∙◌, ap, subst, arith, String}
use Rattle.std.specs.String.{string_bytes}
use Rattle.std.specs.declared.alloc.Global.{Global}
use Rattle.std.proofs.lemmas.List.{map-append, length-map}
use Rattle.jesc_io.specs.Contents.{Store, SameContents}
use Rattle.jesc_engine.specs.declared.sources.Sources.{Sources}
use Rattle.jesc_engine.specs.declared.stop.Cause.{Cause}
use Rattle.jesc_engine.specs.Sources.{HasUnit, HaveUnits, total, Precede}
use Rattle.jesc_engine.specs.Causes.{IsCause, IsComplaintOf}
use Rattle.jesc_engine.specs.Files.{source_names, source_tokens, IsNext}
use Rattle.jesc_engine.proofs.Readings.{unit_before, cause_before, units_more, total_more, map_cut, complaint_of}

-- what is so of the files that were read, which have these names
pub record AreReadSoFar (told : Option Store) (names : List (List ℕ)) (sources : Sources) : Type 0 where
  pub units : HaveUnits told 0 names (source_tokens sources.files)
  pub named : source_names sources.files ≡ names
  pub sum : sources.bytes ≡ total (source_tokens sources.files)
  pub small : sources.bytes ≤ 8388608

pub read_one_more : (told told' : Option Store) (names : List (List ℕ)) (before now : Sources) (name : List ℕ) → SameContents told told'
    → AreReadSoFar told names before → IsNext told' name before now → AreReadSoFar told (names ++ name ∷ []) now
read_one_more told told' names before now name same so_far next =
    let tokens = next.source.tokens in
    let grown : source_tokens now.files ≡ source_tokens before.files ++ tokens ∷ []
    = ap source_tokens next.files ∙ map-append (λ s. s.tokens) before.files (next.source ∷ []) in
    let unit : HasUnit told (0 + length (source_tokens before.files)) name tokens
    = subst (λ n. HasUnit told n name tokens) (omega (arith, length-map before.files (λ s. s.tokens))) (unit_before told told' (length before.files) name tokens same next.unit) in
    record {
      units = subst (HaveUnits told 0 (names ++ name ∷ [])) (sym grown) (units_more told 0 names (source_tokens before.files) name tokens so_far.units unit);
      named = ap source_names next.files ∙ map-append (λ s. s.name.now) before.files (next.source ∷ []) ∙ ap (λ ns. ns ++ next.source.name.now ∷ []) so_far.named ∙ ap (λ n. names ++ n ∷ []) next.named;
      sum = next.bytes ∙ ap (λ n. n + length tokens.text) so_far.sum ∙ sym (total_more (source_tokens before.files) tokens) ∙ ap total (sym grown);
      small = next.small;
    }

-- the complaint on the file at which reading stops
pub stopped_at : (told told' : Option Store) (words : List (String Global)) (i : ℕ) (word : String Global) (name : List ℕ) (sources : Sources) (start reads reads' : ℕ) (cause : Cause)
    → SameContents told told' → i < length words → word ≡ get_or words i word → name ≡ string_bytes word
    → AreReadSoFar told (map string_bytes (take i words)) sources → reads ≡ start → IsCause told' (source_tokens sources.files) name reads reads' cause
    → IsComplaintOf told (map string_bytes words) start reads' name cause
stopped_at told told' words i word name sources start reads reads' cause same within item named so_far steady is =
    let earlier = source_tokens sources.files in
    let parts : map string_bytes words ≡ map string_bytes (take i words) ++ name ∷ map string_bytes (drop (i + 1) words)
    = map_cut string_bytes words i word within item ∙ ap (λ n. map string_bytes (take i words) ++ n ∷ map string_bytes (drop (i + 1) words)) (sym named) in
    let precede : Precede told (map string_bytes words) earlier name = record {
      before = map string_bytes (take i words);
      after = map string_bytes (drop (i + 1) words);
      parts = parts;
      sources = record { units = so_far.units; small = omega (arith, so_far.sum, so_far.small) };
    } in
    complaint_of told (map string_bytes words) earlier name start reads' cause precede
    (subst (λ n. IsCause told earlier name n reads' cause) steady (cause_before told told' earlier name reads reads' cause same is))
