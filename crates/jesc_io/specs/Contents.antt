use Rattle.std.specs.Prelude.{◌≡◌, ◌⊎◌, ℕ, ◌+◌, ◌≤◌, ◌<◌, List, [], ◌++◌, length, take, drop, Option, Some, None, option_map, unwrap_or, IfSome, IsSome, Result, Ok, Err}
use Rattle.std.specs.Map.{update}
use Rattle.std.specs.Str.{bytes_eq}
use Rattle.jesc_io.specs.declared.outside.IoError.{IoError}

-- What files tell: the content of each name that is there, the name and the place open for reading, and the
-- name open for writing. A name is its bytes.
pub record Store : Type 0 where
  pub content : List ℕ → Option (List ℕ)
  pub reading : Option (List ℕ × ℕ)
  pub writing : Option (List ℕ)

-- nothing is there, and nothing is open
abbrev pub no_files : Store
no_files = record { content = λ name. None; reading = None; writing = None }

-- the bytes of this name, and none where it isn't there
abbrev pub bytes_at : List ℕ → Store → List ℕ
bytes_at name s = unwrap_or (s.content name) []

-- these bytes are the content of this name; every other name keeps its content
abbrev pub holding : List ℕ → List ℕ → Store → Store
holding name bytes s = record { content = update bytes_eq s.content name (Some bytes); reading = s.reading; writing = s.writing }

-- this name is open for reading at this place
abbrev pub reading_at : List ℕ → ℕ → Store → Store
reading_at name place s = record { content = s.content; reading = Some (name, place); writing = s.writing }

-- the place for reading lies so many bytes further
abbrev pub moved : ℕ → Store → Store
moved count s = record { content = s.content; reading = option_map (λ at. (at.0, at.1 + count)) s.reading; writing = s.writing }

-- this name is open for writing
abbrev pub writing_to : List ℕ → Store → Store
writing_to name s = record { content = s.content; reading = s.reading; writing = Some name }

-- the content of this name, where it is there, has gained the piece at its end
abbrev pub grown : (List ℕ → Option (List ℕ)) → List ℕ → List ℕ → List ℕ → Option (List ℕ)
grown content name piece = update bytes_eq content name (option_map (λ bytes. bytes ++ piece) (content name))

abbrev pub grown_at : (List ℕ → Option (List ℕ)) → Option (List ℕ) → List ℕ → List ℕ → Option (List ℕ)
grown_at content None piece = content
grown_at content (Some name) piece = grown content name piece

-- the file open for writing, which is there since it was created, has gained the piece at its end
abbrev pub added : List ℕ → Store → Store
added piece s = record { content = grown_at s.content s.writing piece; reading = s.reading; writing = s.writing }

-- the bytes that are left to read of the file open for reading
abbrev pub left : Store → List ℕ
left s = unwrap_or (option_map (λ at. drop at.1 (bytes_at at.0 s)) s.reading) []

-- An `open` that answers Ok leaves that name open for reading at place 0, and changes nothing else.
abbrev pub Opens : Option Store → Option Store → List ℕ → Result Unit IoError → Type 0
Opens before now name (Ok done) = now ≡ option_map (reading_at name 0) before
Opens before now name (Err error) = now ≡ before

-- These are the next bytes, and there are none only at the end of the file or where there is no room for any.
pub record GivesNext (s : Store) (count : ℕ) (into : List ℕ) : Type 0 where
  pub next : take count into ≡ take count (left s)
  pub there : count ≤ length (left s)
  pub last : count ≡ 0 → 0 < length into → left s ≡ []

-- A `read` that answers Ok has given the next bytes and moved the place by their number.
abbrev pub Reads : Option Store → Option Store → List ℕ → Result ℕ IoError → Type 0
Reads before now into (Ok count) = (now ≡ option_map (moved count) before) × IfSome before (λ s. GivesNext s count into)
Reads before now into (Err error) = now ≡ before

-- A `create` makes the file empty and leaves it open for writing; at an error the file is empty or as it was.
abbrev pub Creates : Option Store → Option Store → List ℕ → Result Unit IoError → Type 0
Creates before now name (Ok done) = now ≡ option_map (λ s. writing_to name (holding name [] s)) before
Creates before now name (Err error) = (now ≡ before) ⊎ (now ≡ option_map (holding name []) before)

-- A `put` adds the whole piece to the file open for writing, and a prefix of it at an error.
abbrev pub Adds : Option Store → Option Store → List ℕ → Result Unit IoError → Type 0
Adds before now piece (Ok done) = now ≡ option_map (added piece) before
Adds before now piece (Err error) = (count : ℕ) × (now ≡ option_map (added (take count piece)) before)

-- A sink has taken the whole piece, and a prefix of it at an error.
abbrev pub Gains : Option (List ℕ) → Option (List ℕ) → List ℕ → Result Unit IoError → Type 0
Gains before now piece (Ok done) = now ≡ option_map (λ taken. taken ++ piece) before
Gains before now piece (Err error) = (count : ℕ) × (now ≡ option_map (λ taken. taken ++ take count piece) before)

-- Something is open for reading, where that is told.
abbrev pub CanRead : Option Store → Type 0
CanRead told = IfSome told (λ s. IsSome s.reading)

-- Something was created, where that is told.
abbrev pub CanPut : Option Store → Type 0
CanPut told = IfSome told (λ s. IsSome s.writing)

-- the same files with nothing open for reading
abbrev pub at_rest : Store → Store
at_rest s = record { content = s.content; reading = None; writing = s.writing }

-- All contents and the name open for writing are as they were, where they are told, and what told goes on to tell.
abbrev pub SameContents : Option Store → Option Store → Type 0
SameContents before now = option_map at_rest now ≡ option_map at_rest before
