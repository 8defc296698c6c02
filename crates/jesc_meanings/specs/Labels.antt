-- Labels, and tables that tell the first item of each label.
use Rattle.std.specs.Prelude.{◌≡◌, ℕ, ◌<◌, nat_eq, bytes_eq, ◌&&◌, Bool, false, Option, Some, None, option_map, unwrap_or, List, [], length, get_or, if◌then◌else◌}
use Rattle.jesc_classes.specs.Named.{Named, find}
use Rattle.jesc_lookup.specs.Lines.{or_else}
use Rattle.jesc_tree.specs.declared.class.Class.{Class}
use Rattle.jesc_tree.specs.declared.class.Field.{Field}
use Rattle.jesc_tree.specs.declared.class.Method.{Method}
use Rattle.jesc_meanings.specs.declared.label.Label.{Label}
use Rattle.jesc_meanings.specs.Meanings.{first_at}

-- a name and a number: of a method that of its parameters, of a class or field 0
abbrev pub Key : Type 0
Key = List ℕ × ℕ

abbrev pub alike : Key → Key → Bool
alike a b = bytes_eq a.0 b.0 && nat_eq a.1 b.1

-- how a label of the code is seen
abbrev pub seen : Option Label → Option Key
seen = option_map (λ (l : Label). (l.name.now, l.count))

abbrev pub class_label : Class → Option Key
class_label c = Some (c.name, 0)

abbrev pub field_label : Field → Option Key
field_label f = Some (f.name, 0)

-- a constructor has none
abbrev pub method_label : Method → Option Key
method_label m = if m.is_constructor then None else Some (m.name, length m.params)

abbrev pub is_labelled : Key → Option Key → Bool
is_labelled key None = false
is_labelled key (Some label) = alike key label

-- the first item with that label
abbrev pub first_labelled : Key → List (Option Key) → Option ℕ
first_labelled key labels = first_at (is_labelled key) 0 labels

-- what the row of that number, where there is one, tells of a count
abbrev pub in_row : List (List (Option ℕ)) → ℕ → Option ℕ → Option ℕ
in_row rows count None = None
in_row rows count (Some row) = get_or (get_or rows row []) count None

-- what names with their rows tell of a label
abbrev pub found_in : List (Named ℕ) → List (List (Option ℕ)) → Key → Option ℕ
found_in names rows key = in_row rows key.1 (find key.0 names)

-- each name has a row of its own
pub record AreNamed (names : List (Named ℕ)) (rows : List (List (Option ℕ))) : Type 0 where
  pub small : (name : List ℕ) (row : ℕ) → find name names ≡ Some row → row < length rows
  pub apart : (a b : List ℕ) (row : ℕ) → find a names ≡ Some row → find b names ≡ Some row → a ≡ b

-- the name has that row, and labels tell what they told
pub record TakesName (names : List (Named ℕ)) (rows : List (List (Option ℕ))) (name : List ℕ) (new : List (Named ℕ)) (new_rows : List (List (Option ℕ))) (row : ℕ) : Type 0 where
  pub named : AreNamed new new_rows
  pub found : find name new ≡ Some row
  pub same : (key : Key) → found_in new new_rows key ≡ found_in names rows key

-- the item is taken up under its label, where none before has it
pub record TakesItem (names : List (Named ℕ)) (rows : List (List (Option ℕ))) (label : Option Key) (item : ℕ) (new : List (Named ℕ)) (new_rows : List (List (Option ℕ))) : Type 0 where
  pub named : AreNamed new new_rows
  pub each : (key : Key) → found_in new new_rows key ≡ or_else (found_in names rows key) (if is_labelled key label then Some item else None)

-- the table tells of each label the first item
pub record IsTableOf (labels : List (Option Key)) (names : List (Named ℕ)) (rows : List (List (Option ℕ))) : Type 0 where
  pub named : AreNamed names rows
  pub each : (key : Key) → found_in names rows key ≡ first_labelled key labels

-- what is found of the label, or the item itself where nothing is
abbrev pub key_by : (Key → Option ℕ) → ℕ → Option Key → ℕ
key_by find item None = item
key_by find item (Some key) = unwrap_or (find key) item

-- of each item the first one with its label, or itself where it has none
pub record AreKeys (labels : List (Option Key)) (keys : List ℕ) : Type 0 where
  pub count : length keys ≡ length labels
  pub each : (i : ℕ) → i < length labels → get_or keys i 0 ≡ key_by (λ key. first_labelled key labels) i (get_or labels i None)
