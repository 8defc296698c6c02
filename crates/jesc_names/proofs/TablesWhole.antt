-- The program of headings, from its tables.
use Rattle.std.proofs.Common.{◌≡◌, ℕ, zero, suc, ◌+◌, ◌<◌, ◌^◌, List, [], ◌∷◌, map, take, length, get_or, Contains, All, Some, slice_get, refl, ap, sym, ◌∙◌, subst, arith}
use Rattle.std.proofs.Math.Logic.{∥∥₁_elim, ∥∥₁_map}
use Rattle.std.proofs.Props.{props}
use Rattle.std.proofs.lemmas.List.{nil_from_length}
use Rattle.std.proofs.lemmas.List.Elements.{All-from_recursion}
use Rattle.std.specs.List.{AllZip}
use Rattle.jesc_tree.specs.declared.class.Class.{Class}
use Rattle.jesc_tree.specs.declared.class.Field.{Field}
use Rattle.jesc_tree.specs.declared.class.Method.{Method}
use Rattle.jesc_tree.specs.Ids.{field_ids, method_ids}
use Rattle.jesc_tree.specs.Subtypes.{IsAt, supertypes}
use Rattle.jesc_tree.specs.Programs.{IsBare, IsInRange, IsProgram, IsLawful}
use Rattle.jesc_classes.specs.declared.headings.ClassTables.{ClassTables}
use Rattle.jesc_classes.specs.Headings.{Source, graph_of, walk}
use Rattle.jesc_classes.specs.Headings as headings
use Rattle.jesc_classes.specs.Order.{IsOrder}
use Rattle.jesc_classes.specs.Tables.{AreTables}
use Rattle.jesc_classes.specs.Entries.{IsTable, AreApart, AreIds}
use Rattle.jesc_classes.specs.laws.Graphs.{graph_length}
use Rattle.jesc_classes.specs.laws.Ids.{long, at_most}
use Rattle.jesc_classes.specs.laws.Lawful.{there, of_each, same_some, each_at, program, is_lawful}
use Rattle.jesc_members.specs.Fields.{FieldOf, fields_of}
use Rattle.jesc_members.specs.Placed.{AreFew, AreMembersPlaced}
use Rattle.jesc_member_rules.specs.Members.{AllHold, member_walk}
use Rattle.jesc_names.specs.Program.{IsField, IsMethod, IsProgramOf, numbers_in, callables_at, callable_order, field_order, joined, counted}
use Rattle.jesc_names.specs.TablesKnown.{IsReadyField, AreNumbers}
use Rattle.jesc_names.specs.TablesRows.{plain, total, IsRow, AreFieldIds}
use Rattle.jesc_names.proofs.TablesZips.{zip_length, joined_total}
use Rattle.jesc_names.proofs.TablesRules.{ready as class_ready, ready_fields}
use Rattle.jesc_names.proofs.TablesOrder.{field_apart, field_within, field_whole, none_predefined}
use Rattle.jesc_names.proofs.TablesProgram.{same_length, before, names_same, heading_same, lawful_same, supertypes_same, no_invariants, no_represents, bare_same, methods_in_range, fields_in_range, class_in_range}

of_first : {X : Type 0} (xs : List X) (k i : ℕ) (x : X) → i < k → slice_get xs i ≡ Some x → slice_get (take k xs) i ≡ Some x
of_first xs zero i x l e = absurd (omega (arith, l))
of_first [] (suc k) i x l e = cc
of_first (y ∷ xs) (suc k) zero x l e = e
of_first (y ∷ xs) (suc k) (suc i) x l e = of_first xs k i x (omega (arith, l)) e

first_of : {X : Type 0} (xs : List X) (k i : ℕ) (x : X) → slice_get (take k xs) i ≡ Some x → (i < k) × (slice_get xs i ≡ Some x)
first_of xs zero i x e = cc
first_of [] (suc k) i x e = cc
first_of (y ∷ xs) (suc k) zero x e = (omega arith, e)
first_of (y ∷ xs) (suc k) (suc i) x e = let r = first_of xs k i x e in (omega (arith, r.0), r.1)

pub map_same : {X : Type 0} (f g : ℕ → X) (xs : List ℕ) → ((i : ℕ) → i < length xs → f (get_or xs i 0) ≡ g (get_or xs i 0)) → map f xs ≡ map g xs
map_same f g [] h = refl
map_same f g (x ∷ xs) h = (λ k. h 0 (omega arith) k ∷ map_same f g xs (λ i l. h (suc i) (omega (arith, l))) k)

-- what is true of the order of the classes' ids, and of that of fields by it
pub record IsGoodOrder (given : List Source) (order : List ℕ) : Type 0 where
  pub long : length order ≡ length given + 7
  pub few : length order < 2 ^ 32
  pub apart : AreApart order
  pub within : (i : ℕ) → i < length order → get_or order i 0 < length order
  pub inside : (i : ℕ) → i < length order → get_or order i 0 < length given + 7
  pub whole : (n : ℕ) → n < length order → Contains order n
  pub field_few : length (field_order given order) < 2 ^ 32
  pub field_apart : AreApart (field_order given order)
  pub field_within : (i : ℕ) → i < length (field_order given order) → get_or (field_order given order) i 0 < length (fields_of given)
  pub field_whole : (n : ℕ) → n < length (fields_of given) → Contains (field_order given order) n

module _ (given : List Source) (order : List ℕ) (good : IsGoodOrder given order) (lists : List (List ℕ)) (each : (class : ℕ) → class < length order → get_or lists class [] ≡ numbers_in class 0 (fields_of given)) where
  -- the lists of each class's fields make the order of fields
  pub ordered : joined (map (λ class. get_or lists class []) order) ≡ field_order given order
  ordered = ap joined (map_same (λ class. get_or lists class []) (λ class. numbers_in class 0 (fields_of given)) order (λ i l. each (get_or order i 0) (good.within i l)))

  pub sized : map (λ class. length (get_or lists class [])) order ≡ map (λ class. length (numbers_in class 0 (fields_of given))) order
  sized = map_same (λ class. length (get_or lists class [])) (λ class. length (numbers_in class 0 (fields_of given))) order (λ i l. ap (λ (xs : List ℕ). length xs) (each (get_or order i 0) (good.within i l)))

-- ids by number, of an order that the code has as a slice
pub numbers_are : (given : List Source) (order ids : List ℕ) → IsGoodOrder given order → length ids ≡ length order → AreIds order ids → AreNumbers given order ids
numbers_are given order ids good count each = record { count = count ∙ good.long; each = each }

pub lists_are : (given : List Source) (fs : List FieldOf) (n : ℕ) (items slice : List (List ℕ)) → slice ≡ items → fs ≡ fields_of given → ((class : ℕ) → class < n → get_or items class [] ≡ numbers_in class 0 fs) → (class : ℕ) → class < n → get_or slice class [] ≡ numbers_in class 0 (fields_of given)
lists_are given fs n items slice e f each class l = ap (λ (xs : List (List ℕ)). get_or xs class []) e ∙ each class l ∙ ap (numbers_in class 0) f

pub field_ids_by : (given : List Source) (order view numbers items : List ℕ) → IsGoodOrder given order → view ≡ field_order given order → numbers ≡ field_order given order → length items ≡ length (fields_of given) → AreIds numbers items → AreFieldIds given order view items
field_ids_by given order view numbers items good e f count each = record {
  order = e;
  count = count;
  apart = subst AreApart (sym e) good.field_apart;
  each = subst (λ (xs : List ℕ). AreIds xs items) (f ∙ sym e) each;
}

pub all_ready : (given : List Source) → AllHold given (member_walk given) → All AreMembersPlaced given → All (IsReadyField given) (fields_of given)
all_ready given held placed = ready_fields given (class_ready given held placed)

pub below_count : (given : List Source) (n : ℕ) → n ≡ length given + 7 → All (IsReadyField given) (fields_of given) → (fs : List FieldOf) → fs ≡ fields_of given → All (λ f. f.class < n) fs
below_count given n e ready fs same = subst (All (λ f. f.class < n)) (sym same) (λ k d l. let h = (ready k d l).high in omega (arith, h, e))

module _ (given : List Source) (t : ClassTables) (tables : AreTables given t) (headed : headings.AllHold given (walk given)) where
  pub as_long : length t.order ≡ length given + 7
  as_long = ∥∥₁_elim tables.is_order (hlevel props) (long given t.order headed)

  pub all_classes : (n : ℕ) → n < length given + 7 → Contains t.order n
  all_classes n l = tables.whole n (omega (arith, l, graph_length given))

  good_order : AreFew given → All (IsReadyField given) (fields_of given) → IsGoodOrder given t.order
  good_order few ready = record {
    long = as_long;
    few = let f = few.classes in omega (arith, f, as_long);
    apart = tables.numbering.apart;
    within = λ i l. let w = tables.numbering.within i l in omega (arith, w, as_long);
    inside = tables.numbering.within;
    whole = λ n l. all_classes n (omega (arith, l, as_long));
    field_few =
        let l = at_most (length (fields_of given)) (field_order given t.order) (field_apart given t.order tables.numbering.apart) (field_within given t.order) in
        let f = few.fields in
        omega (arith, l, f);
    field_apart = field_apart given t.order tables.numbering.apart;
    field_within = field_within given t.order;
    field_whole = field_whole given t.order all_classes ready;
  }

  -- the code sees the order as a slice
  pub good : AreFew given → All (IsReadyField given) (fields_of given) → (view : List ℕ) → view ≡ t.order → IsGoodOrder given view
  good few ready view e = subst (IsGoodOrder given) (sym e) (good_order few ready)

  module _ (ready : All (IsReadyField given) (fields_of given)) (filled : List Class) (rows : List Field) (methods : List Method) (same : map plain filled ≡ map plain t.classes)
      (each_row : AllZip (IsRow given t.order) (field_order given t.order) rows) (each_method : AllZip (IsMethod given t.order) (callable_order given t.order) methods)
      (field_counts method_counts : List ℕ)
      (field_sizes : field_counts ≡ map (λ class. length (numbers_in class 0 (fields_of given))) t.order) (method_sizes : method_counts ≡ map (λ class. length (callables_at given class)) t.order)
      (fields_as_many : map (λ (c : Class). length c.fields) filled ≡ field_counts) (methods_as_many : map (λ (c : Class). length c.methods) filled ≡ method_counts)
      (fields_listed : map (λ f. f.0) (joined (map (λ (c : Class). c.fields) filled)) ≡ counted 0 (total field_counts)) (methods_listed : map (λ m. m.0) (joined (map (λ (c : Class). c.methods) filled)) ≡ counted 0 (total method_counts)) where
    all_fields : total field_counts ≡ length rows
    all_fields = ap total field_sizes ∙ sym (joined_total (λ class. numbers_in class 0 (fields_of given)) t.order) ∙ zip_length (IsRow given t.order) (field_order given t.order) rows each_row

    all_methods : total method_counts ≡ length methods
    all_methods = ap total method_sizes ∙ sym (joined_total (callables_at given) t.order) ∙ zip_length (IsMethod given t.order) (callable_order given t.order) methods each_method

    field_ids_are : map (λ f. f.0) (joined (map (λ (c : Class). c.fields) filled)) ≡ counted 0 (length rows)
    field_ids_are = fields_listed ∙ ap (counted 0) all_fields

    method_ids_are : map (λ m. m.0) (joined (map (λ (c : Class). c.methods) filled)) ≡ counted 0 (length methods)
    method_ids_are = methods_listed ∙ ap (counted 0) all_methods

    table : IsTable given t.classes
    table = record { order = t.order; numbering = tables.numbering; entries = tables.entries }

    old : IsProgram t.classes [] []
    old = program given t.classes table tables.entries.bare tables.entries.plain

    supers_first : (i : ℕ) (c : Class) → IsAt filled i c → All (λ s. s < i) (supertypes c)
    supers_first = supertypes_same t.classes filled same old.supertypes_first

    count : length filled ≡ length t.order
    count = same_length t.classes filled same ∙ tables.entries.count

    no_fields : (k : ℕ) (c : Class) → k < 7 → IsAt filled k c → c.fields ≡ []
    no_fields k c l at =
        let one = of_each (λ (x : Class). length x.fields) filled k c at in
        let two = of_each (λ class. length (numbers_in class 0 (fields_of given))) t.order k k (tables.numbering.first k l) in
        let size : length c.fields ≡ length (numbers_in k 0 (fields_of given)) = same_some (length c.fields) (length (numbers_in k 0 (fields_of given))) (sym one ∙ ap (λ (xs : List ℕ). slice_get xs k) (fields_as_many ∙ field_sizes) ∙ two) in
        nil_from_length c.fields (size ∙ ap (λ (xs : List ℕ). length xs) (none_predefined given ready k l))

    bare : All IsBare (take 7 filled)
    bare k d l =
        let c = get_or (take 7 filled) k d in
        let at = first_of filled 7 k c (there (take 7 filled) k d l) in
        let r = before t.classes filled same k c at.1 in
        bare_same t.classes filled same k c r.0 r.2 (each_at IsBare (take 7 t.classes) k r.0 tables.entries.bare (of_first t.classes 7 k r.0 at.0 r.1)) (no_fields k c at.0 at.1)

    forget : (ns : List ℕ) (xs : List Field) → AllZip (IsRow given t.order) ns xs → AllZip (IsField given t.order) ns xs
    forget [] [] h = tt
    forget [] (x ∷ xs) h = absurd h
    forget (n ∷ ns) [] h = absurd h
    forget (n ∷ ns) (x ∷ xs) h = (h.0.field, forget ns xs h.1)

    pub is_program : IsProgram filled rows methods
    is_program = record {
      of_classes = λ k d l.
          let c = get_or filled k d in
          let at = there filled k d l in
          class_in_range filled rows methods field_ids_are method_ids_are k c at (supers_first k c at) (no_invariants t.classes filled same tables.entries.plain k d l) (no_represents t.classes filled same tables.entries.plain k d l);
      of_fields = All-from_recursion (λ f. All (IsInRange filled rows methods) (field_ids f)) rows (fields_in_range filled rows methods given t.order count (sym (zip_length (IsRow given t.order) (field_order given t.order) rows each_row)) (field_order given t.order) rows each_row);
      of_methods = All-from_recursion (λ m. All (IsInRange filled rows methods) (method_ids m)) methods (methods_in_range filled rows methods given t.order count (callable_order given t.order) methods each_method);
      supertypes_first = supers_first;
      names = names_same t.classes filled same ∙ tables.entries.names;
      bare = bare;
    }

    pub lawful : IsLawful filled rows methods
    lawful = record {
      program = is_program;
      headings = lawful_same t.classes filled same (is_lawful given t.classes table tables.entries.bare tables.entries.plain headed).headings;
    }

    of_order : IsOrder (graph_of given) [] t.order → IsProgramOf given filled rows methods
    of_order is = record {
      headings = record {
        order = t.order;
        is_order = is;
        whole = tables.whole;
        count = count;
        names = names_same t.classes filled same ∙ tables.entries.names;
        each = λ id n c s at number is_given.
            let r = before t.classes filled same id c at in
            heading_same t.classes filled same given t.order s c r.0 r.2 (tables.entries.each id n r.0 s r.1 number is_given);
      };
      members = record {
        each_field = forget (field_order given t.order) rows each_row;
        each_method = each_method;
        field_counts = fields_as_many ∙ field_sizes;
        field_ids = field_ids_are;
        method_counts = methods_as_many ∙ method_sizes;
        method_ids = method_ids_are;
        invariants = no_invariants t.classes filled same tables.entries.plain;
        represents = no_represents t.classes filled same tables.entries.plain;
      };
    }

    pub of_headings : ∥ IsProgramOf given filled rows methods ∥₁
    of_headings = ∥∥₁_map tables.is_order of_order

-- ---- what the code has made

pub record AreRows (given : List Source) (order : List ℕ) (old filled : List Class) (rows : List Field) (methods : List Method) : Type 0 where
  pub same : map plain filled ≡ map plain old
  pub each_row : AllZip (IsRow given order) (field_order given order) rows
  pub each_method : AllZip (IsMethod given order) (callable_order given order) methods
  pub field_counts : List ℕ
  pub method_counts : List ℕ
  pub field_sizes : field_counts ≡ map (λ class. length (numbers_in class 0 (fields_of given))) order
  pub method_sizes : method_counts ≡ map (λ class. length (callables_at given class)) order
  pub fields_as_many : map (λ (c : Class). length c.fields) filled ≡ field_counts
  pub methods_as_many : map (λ (c : Class). length c.methods) filled ≡ method_counts
  pub fields_listed : map (λ f. f.0) (joined (map (λ (c : Class). c.fields) filled)) ≡ counted 0 (total field_counts)
  pub methods_listed : map (λ m. m.0) (joined (map (λ (c : Class). c.methods) filled)) ≡ counted 0 (total method_counts)

module _ (given : List Source) (t : ClassTables) (tables : AreTables given t) (headed : headings.AllHold given (walk given)) (ready : All (IsReadyField given) (fields_of given)) (view : List ℕ) (old filled : List Class) (rows : List Field) (methods : List Method)
    (e : view ≡ t.order) (f : old ≡ t.classes) (are : AreRows given view old filled rows methods) where
  a : AreRows given t.order t.classes filled rows methods
  a = subst (λ (cs : List Class). AreRows given t.order cs filled rows methods) f (subst (λ (o : List ℕ). AreRows given o old filled rows methods) e are)

  pub program_made : IsProgram filled rows methods
  program_made = is_program given t tables headed ready filled rows methods a.same a.each_row a.each_method a.field_counts a.method_counts a.field_sizes a.method_sizes a.fields_as_many a.methods_as_many a.fields_listed a.methods_listed

  pub lawful_made : IsLawful filled rows methods
  lawful_made = lawful given t tables headed ready filled rows methods a.same a.each_row a.each_method a.field_counts a.method_counts a.field_sizes a.method_sizes a.fields_as_many a.methods_as_many a.fields_listed a.methods_listed

  pub headings_made : ∥ IsProgramOf given filled rows methods ∥₁
  headings_made = of_headings given t tables headed ready filled rows methods a.same a.each_row a.each_method a.field_counts a.method_counts a.field_sizes a.method_sizes a.fields_as_many a.methods_as_many a.fields_listed a.methods_listed

pub good_by : (given : List Source) (t : ClassTables) → AreTables given t → headings.AllHold given (walk given) → AreFew given → AllHold given (member_walk given) → All AreMembersPlaced given → (view : List ℕ) → view ≡ t.order → IsGoodOrder given view
good_by given t tables headed few held placed view e = good given t tables headed few (all_ready given held placed) view e
