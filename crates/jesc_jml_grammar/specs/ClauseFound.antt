-- What the parser of specifications and of members in annotations reads.
use Rattle.std.specs.Prelude.{ℕ, max, Bool, true, false, ◌&&◌, ◌||◌, Option, Some, None, List, [], ◌∷◌, ◌++◌, codes, bytes_eq}
use Rattle.std.specs.List.{list_all}
use Rattle.jesc_text.specs.declared.place.Span.{Span}
use Rattle.jesc_ast.specs.declared.word.Word.{Word}
use Rattle.jesc_ast.specs.Lexemes.{Lexeme, join}
use Rattle.jesc_ast.specs.Trees.{Expression, member, index, Clause}
use Rattle.jesc_ast.specs.SpecTrees as trees
use Rattle.jesc_ast.specs.SpecTrees.{Store, store, Promise, Case, case_of, Specification}
use Rattle.jesc_ast.specs.FileTrees as members
use Rattle.jesc_ast.specs.FileTrees.{MemberForm, Member, member_of}
use Rattle.jesc_ast.specs.declared.word.TypeTree.{TypeTree}
use Rattle.jesc_ast.specs.Expressions.{span_of}
use Rattle.jesc_ast.specs.Specifications.{is_visibility}
use Rattle.jesc_jml_grammar.specs.Reading.{Parsed, word_of, over, over_two}

-- with the greatest depth of an expression in it
pub record Sized (A : Type 0) : Type 0 where
  pub tree : A
  pub depth : ℕ

-- and with the span of its last lexeme, or of the one before it where it has none
pub record Ended (A : Type 0) : Type 0 where
  pub tree : A
  pub depth : ℕ
  pub last : Span

abbrev pub sized : {A : Type 0} → A → ℕ → Sized A
sized a depth = record { tree = a; depth = depth }

abbrev pub ended : {A : Type 0} → A → ℕ → Lexeme → Ended A
ended a depth last = record { tree = a; depth = depth; last = last.span }

abbrev pub no_items : {A : Type 0} → Sized (List A)
no_items = record { tree = []; depth = 0 }

abbrev pub with_more : {A : Type 0} → Sized (List A) → Sized A → Sized (List A)
with_more xs x = record { tree = xs.tree ++ x.tree ∷ []; depth = max xs.depth x.depth }

abbrev pub none_behind : {A : Type 0} → Span → Ended (List A)
none_behind last = record { tree = []; depth = 0; last = last }

abbrev pub with_ended : {A : Type 0} → Ended (List A) → Ended A → Ended (List A)
with_ended xs x = record { tree = xs.tree ++ x.tree ∷ []; depth = max xs.depth x.depth; last = x.last }

abbrev pub with_word : List Word → Lexeme → List Word
with_word ws x = ws ++ word_of x ∷ []

-- A path, whose last index is no part of it as long as the next lexeme is not known.
pub data Path : Type 0 where
  plain : Parsed → Path
  with_index : Parsed → Lexeme → Parsed → Lexeme → Path

-- the path with its last index
abbrev pub closed : Path → Parsed
closed (plain e) = e
closed (with_index e p i q) = over_two 12 e i (index (join (span_of e.tree) q.span) e.tree p.span i.tree)

-- the store that a path alone is
abbrev pub store_of : Path → Sized Store
store_of (plain e) = sized (store (span_of e.tree) (trees.path e.tree)) e.depth
store_of (with_index e p i q) = sized (store (join (span_of e.tree) q.span) (trees.element e.tree i.tree)) (max e.depth i.depth)

-- A store goes on with a longer path, or it is read.
pub data StoreStep : Type 0 where
  goes_on : Path → StoreStep
  is_read : Sized Store → StoreStep

abbrev pub star_of : Parsed → Lexeme → Sized Store
star_of e q = sized (store (join (span_of e.tree) q.span) (trees.star e.tree)) e.depth

abbrev pub all_of : Parsed → Lexeme → Sized Store
all_of e q = sized (store (join (span_of e.tree) q.span) (trees.all_elements e.tree)) e.depth

abbrev pub range_of : Parsed → Parsed → Parsed → Lexeme → Sized Store
range_of e i j q = sized (store (join (span_of e.tree) q.span) (trees.range e.tree i.tree j.tree)) (max e.depth (max i.depth j.depth))

abbrev pub member_path : Parsed → Lexeme → Lexeme → Path
member_path e dot x = plain (over 12 e (member (join (span_of e.tree) x.span) e.tree dot.span (word_of x)))

abbrev pub signals_of : Lexeme → Lexeme → Lexeme → Option Word → Sized (Option Expression) → Lexeme → Ended Promise
signals_of x p class n e q = ended (trees.signals (word_of x) p.span (word_of class) n e.tree) e.depth q

abbrev pub optional_word : Option Lexeme → Option Word
optional_word None = None
optional_word (Some x) = Some (word_of x)

-- the span of the first lexeme of what may begin with a visibility
abbrev pub span_from : Option Lexeme → Lexeme → Span
span_from None x = x.span
span_from (Some v) x = v.span

abbrev pub case_tree : Span → Option Word → Option Word → Ended (List Clause) → Ended (List Promise) → Sized Case
case_tree first visibility heading ds ps = sized (case_of (join first ps.last) visibility heading ds.tree ps.tree) (max ds.depth ps.depth)

abbrev pub spec_of : Bool → Sized (List Case) → Sized Specification
spec_of also cs = sized (trees.specification also cs.tree) cs.depth

-- an initial value that may be missing, with the place of its equals sign
pub record Value : Type 0 where
  pub equals : Option Span
  pub e : Option Expression
  pub depth : ℕ

abbrev pub no_value : Value
no_value = record { equals = None; e = None; depth = 0 }

abbrev pub value_of : Lexeme → Parsed → Value
value_of equals e = record { equals = Some equals.span; e = Some e.tree; depth = e.depth }

abbrev pub field_of : List Word → TypeTree → Lexeme → Value → Ended (List Word) → Ended MemberForm
field_of ws ty y v gs = record { tree = members.spec_field ws ty (word_of y) v.equals v.e gs.tree; depth = v.depth; last = gs.last }

abbrev pub member_tree : Span → Ended MemberForm → Sized Member
member_tree first f = sized (member_of (join first f.last) f.tree) f.depth

-- ---- modifiers

abbrev pub is_visibility_word : Word → Bool
is_visibility_word word = word.note && is_visibility word.text

abbrev pub is_instance_word : Word → Bool
is_instance_word word = word.note && bytes_eq word.text (codes "instance")

-- a visibility and then `instance`, each of which may be missing
abbrev pub allow_invariant : List Word → Bool
allow_invariant [] = true
allow_invariant (a ∷ []) = is_visibility_word a || is_instance_word a
allow_invariant (a ∷ b ∷ []) = is_visibility_word a && is_instance_word b
allow_invariant (a ∷ b ∷ c ∷ ws) = false

-- a visibility, which may be missing
abbrev pub allow_represents : List Word → Bool
allow_represents [] = true
allow_represents (a ∷ []) = is_visibility_word a
allow_represents (a ∷ b ∷ ws) = false

abbrev pub allow_field : List Word → Bool
allow_field = list_all (λ word. word.note)

abbrev pub first_word : List Word → Option Word
first_word [] = None
first_word (word ∷ words) = Some word
