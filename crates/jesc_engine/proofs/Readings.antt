-- What reading one file after another keeps and gains.
use Rattle.std.proofs.Common.{◌≡◌, ◌≢◌, ℕ, ◌+◌, ◌<◌, ◌≤◌, List, [], ◌∷◌, ◌++◌, length, take, drop, get_or, map, Option, Some, None, option_map, unwrap_or, refl, sym, ◌∙◌, ap, subst, arith}
use Rattle.std.proofs.lemmas.List.{take_more, drop_more, take-append-drop, map-append}
use Rattle.jesc_io.specs.Contents.{Store, bytes_at, SameContents}
use Rattle.jesc_lexer.specs.declared.token.Tokens.{Tokens}
use Rattle.jesc_engine.specs.declared.stop.Cause.{Cause}
use Rattle.jesc_engine.specs.declared.stop.Cause.TheVariants.{CannotRead, TooLarge, TooLargeTogether, Lexical, Syntax, Outside, OutOfMemory}
use Rattle.jesc_engine.specs.Sources.{IsContent, IsTooLarge, IsRead, HasTokens, HasUnit, HaveUnits, total, Precede}
use Rattle.jesc_engine.specs.Refusals.{is_too_large, are_too_large, is_lexical, is_syntactic}
use Rattle.jesc_engine.specs.Causes.{IsCause, IsComplaintOf}

-- ---- what was told before reads

same_bytes : (before now : Store) (name : List ℕ) → SameContents (Some before) (Some now) → bytes_at name now ≡ bytes_at name before
same_bytes before now name same = ap (λ (told : Option Store). unwrap_or (option_map (bytes_at name) told) []) same

content_before : (before now : Option Store) (name bytes : List ℕ) → SameContents before now → IsContent now name bytes → IsContent before name bytes
content_before None now name bytes same content = tt
content_before (Some before) None name bytes same content = cc
content_before (Some before) (Some now) name bytes same content = content ∙ same_bytes before now name same

too_large_before : (before now : Option Store) (name : List ℕ) → SameContents before now → IsTooLarge now name → IsTooLarge before name
too_large_before None now name same large = tt
too_large_before (Some before) None name same large = cc
too_large_before (Some before) (Some now) name same large = subst (λ bytes. 1048576 < length bytes) (same_bytes before now name same) large

read_before : (before now : Option Store) (name bytes : List ℕ) → SameContents before now → IsRead now name bytes → IsRead before name bytes
read_before before now name bytes same read = record { content = content_before before now name bytes same read.content; small = read.small }

tokens_before : (before now : Option Store) (number : ℕ) (name : List ℕ) (tokens : Tokens) → SameContents before now → HasTokens now number name tokens → HasTokens before number name tokens
tokens_before before now number name tokens same has = record { read = read_before before now name tokens.text same has.read; lexed = has.lexed }

pub unit_before : (before now : Option Store) (number : ℕ) (name : List ℕ) (tokens : Tokens) → SameContents before now → HasUnit now number name tokens → HasUnit before number name tokens
unit_before before now number name tokens same has =
    record { has = tokens_before before now number name tokens same has.has; unit = has.unit; spelled = has.spelled; fits = has.fits }

pub cause_before : (before now : Option Store) (earlier : List Tokens) (name : List ℕ) (reads reads' : ℕ) (cause : Cause) → SameContents before now
    → IsCause now earlier name reads reads' cause → IsCause before earlier name reads reads' cause
cause_before before now earlier name reads reads' CannotRead same is = is
cause_before before now earlier name reads reads' TooLarge same is = too_large_before before now name same is
cause_before before now earlier name reads reads' (TooLargeTogether bytes) same is =
    record { content = is.content; read = read_before before now name is.content same is.read; sum = is.sum; large = is.large }
cause_before before now earlier name reads reads' (Lexical number place word) same is =
    record { content = is.content; read = read_before before now name is.content same is.read; small = is.small; refused = is.refused }
cause_before before now earlier name reads reads' (Syntax error) same is =
    record { tokens = is.tokens; has = tokens_before before now (length earlier) name is.tokens same is.has; small = is.small; some = is.some; refused = is.refused }
cause_before before now earlier name reads reads' (Outside place text) same is = absurd is
cause_before before now earlier name reads reads' OutOfMemory same is = tt

-- ---- one more file

pub units_more : (told : Option Store) (number : ℕ) (names : List (List ℕ)) (sources : List Tokens) (name : List ℕ) (tokens : Tokens)
    → HaveUnits told number names sources → HasUnit told (number + length sources) name tokens → HaveUnits told number (names ++ name ∷ []) (sources ++ tokens ∷ [])
units_more told number [] [] name tokens units unit = (subst (λ n. HasUnit told n name tokens) (omega arith) unit, tt)
units_more told number [] (t ∷ ts) name tokens units unit = absurd units
units_more told number (n ∷ ns) [] name tokens units unit = absurd units
units_more told number (n ∷ ns) (t ∷ ts) name tokens units unit =
    (units.0, units_more told (number + 1) ns ts name tokens units.1 (subst (λ k. HasUnit told k name tokens) (omega arith) unit))

pub total_more : (sources : List Tokens) (tokens : Tokens) → total (sources ++ tokens ∷ []) ≡ total sources + length tokens.text
total_more [] tokens = omega arith
total_more (t ∷ ts) tokens = omega (arith, total_more ts tokens)

-- ---- where a list is cut

pub cut_at : {X : Type 0} (xs : List X) (i : ℕ) (x : X) → i < length xs → x ≡ get_or xs i x → xs ≡ take i xs ++ x ∷ drop (i + 1) xs
cut_at xs i x within item =
    sym (take-append-drop i xs) ∙ ap (λ rest. take i xs ++ rest) (drop_more xs i x within ∙ ap (λ y. y ∷ drop (i + 1) xs) (sym item))

pub map_cut : {X Y : Type 0} (f : X → Y) (xs : List X) (i : ℕ) (x : X) → i < length xs → x ≡ get_or xs i x
    → map f xs ≡ map f (take i xs) ++ f x ∷ map f (drop (i + 1) xs)
map_cut f xs i x within item = ap (map f) (cut_at xs i x within item) ∙ map-append f (take i xs) (x ∷ drop (i + 1) xs)

pub map_more_at : {X Y : Type 0} (f : X → Y) (xs : List X) (i : ℕ) (x : X) → i < length xs → x ≡ get_or xs i x
    → map f (take (i + 1) xs) ≡ map f (take i xs) ++ f x ∷ []
map_more_at f xs i x within item = ap (map f) (take_more xs i x within ∙ ap (λ y. take i xs ++ y ∷ []) (sym item)) ∙ map-append f (take i xs) (x ∷ [])

-- ---- the complaint on a file that stops the reading

pub complaint_of : (told : Option Store) (names : List (List ℕ)) (earlier : List Tokens) (name : List ℕ) (reads reads' : ℕ) (cause : Cause)
    → Precede told names earlier name → IsCause told earlier name reads reads' cause → IsComplaintOf told names reads reads' name cause
complaint_of told names earlier name reads reads' CannotRead precede is = record { rose = is; name = name; earlier = earlier; precede = precede; text = refl }
complaint_of told names earlier name reads reads' TooLarge precede is = (name, is_too_large earlier precede is)
complaint_of told names earlier name reads reads' (TooLargeTogether bytes) precede is = (name, are_too_large earlier bytes precede is)
complaint_of told names earlier name reads reads' (Lexical number place word) precede is = (name, is_lexical earlier number place word precede is)
complaint_of told names earlier name reads reads' (Syntax error) precede is = (name, is_syntactic earlier error precede is)
complaint_of told names earlier name reads reads' (Outside place text) precede is = absurd is
complaint_of told names earlier name reads reads' OutOfMemory precede is = tt
