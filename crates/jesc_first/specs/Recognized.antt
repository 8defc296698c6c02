-- What the program's recognizer stands for.
use Rattle.std.specs.Prelude.{◌≡◌, Bool, true, false, Option, Some, None}
use Rattle.jesc_first.specs.declared.reader.recognizer.Recognizer.{Recognizer}
use Rattle.jesc_first.specs.Parsing.{Texts}
use Rattle.jesc_first.specs.Recognizing.{State}

-- the state, with the names of classes
abbrev pub state_of : Recognizer → Texts → State
state_of r classes = record {
  phase = r.phase;
  classes = classes;
  methods = r.methods;
  scope = r.scope;
  returns = r.returns;
  told = r.told;
}

-- it went on to this state, or stopped
abbrev pub Steps : Option State → Bool → State → Type 0
Steps rule true new = rule ≡ Some new
Steps rule false new = rule ≡ None
