-- What the emitter's functions owe: the answer, the counters and the arena are what the definition's step gives from any tables that the
-- arena held. Assumes nothing: these are definitions.
use Rattle.std.specs.Prelude.{◌≡◌, ◌⊎◌, ℕ, ◌+◌, ◌-◌, Bool, false, List, [], ◌∷◌, ◌++◌}
use Rattle.std.proofs.Math.Option.{none, some}
use Rattle.laws.specs.Fix.{pick}
use Rattle.laws.specs.Splice.{splice}
use Rattle.records.specs.Words.{text_at}
use Rattle.conversion.specs.ConvertError.{ConvertErrorKind}
use Rattle.conversion.specs.Ir as Ir
use Rattle.conversion.specs.Ir.{State, Out, made, failed, M, LabelName, StringEntry, FloatEntry}
use Rattle.conversion.specs.Written.{word, encode_instr, encode_var, encode_label, encode_float}
use Rattle.ir.specs.declared.structs.Counters.{Counters}
use Rattle.ir.specs.declared.structs.Label.{Label}
use Rattle.ir.specs.declared.structs.VarId.{VarId}
use Rattle.ir.specs.declared.structs.WithCounters.{WithCounters}
use Rattle.ir.specs.Instructions.{var_of}
use Rattle.ir.specs.Amounts.{amount, Spent}
use Rattle.ir.specs.Search.{float_head}
use Rattle.ir.specs.Arena.{instruction_entry_at, variable_entry_at, label_entry_at, string_entry_at, string_number_at, string_slot_at, float_entry_at, float_link_at, float_head_at, label_slot, float_entry_bucket, NumberedTexts, TellsApart, TablesSoFar, Holds, Room}

-- the tables after a step that emits c and leaves the state s
abbrev pub grown : TablesSoFar → List Ir.Instr → State → TablesSoFar
grown t c s = record { done = t.done; code = t.code ++ c; state = s }

-- the definition's step gives a, and what it emits and leaves stands in the arena
unfoldable pub Stands : {A : Type 0} → Out A → A → NumberedTexts → TablesSoFar → Counters → List ℕ → Type 0
Stands (made b c s) a texts t k l = (a ≡ b) × Holds texts (grown t c s) k l
Stands (failed e r) a texts t k l = ⊥

-- from any tables that the arena l held under the counters k
pub record Next {A : Type 0} (m : M A) (k : Counters) (l : List ℕ) (a : A) (k' : Counters) (l' : List ℕ) : Type 0 where
  pub room : Room k' l'
  pub records : k'.records ≡ k.records
  pub stands : (texts : NumberedTexts) (t : TablesSoFar) → Holds texts t k l → Stands (m t.state) a texts t k' l'

-- the counters with one entry more
abbrev pub more_instructions : Counters → Counters
more_instructions k = record { records = k.records; instructions = k.instructions + 1; variables = k.variables; labels = k.labels; functions = k.functions; strings = k.strings; floats = k.floats; instructions_before = k.instructions_before; variables_before = k.variables_before; labels_before = k.labels_before }

abbrev pub more_variables : Counters → Counters
more_variables k = record { records = k.records; instructions = k.instructions; variables = k.variables + 1; labels = k.labels; functions = k.functions; strings = k.strings; floats = k.floats; instructions_before = k.instructions_before; variables_before = k.variables_before; labels_before = k.labels_before }

abbrev pub more_labels : Counters → Counters
more_labels k = record { records = k.records; instructions = k.instructions; variables = k.variables; labels = k.labels + 1; functions = k.functions; strings = k.strings; floats = k.floats; instructions_before = k.instructions_before; variables_before = k.variables_before; labels_before = k.labels_before }

abbrev pub more_strings : Counters → Counters
more_strings k = record { records = k.records; instructions = k.instructions; variables = k.variables; labels = k.labels; functions = k.functions; strings = k.strings + 1; floats = k.floats; instructions_before = k.instructions_before; variables_before = k.variables_before; labels_before = k.labels_before }

abbrev pub more_floats : Counters → Counters
more_floats k = record { records = k.records; instructions = k.instructions; variables = k.variables; labels = k.labels; functions = k.functions; strings = k.strings; floats = k.floats + 1; instructions_before = k.instructions_before; variables_before = k.variables_before; labels_before = k.labels_before }

-- a string's place and its text
abbrev pub entry_of_string : List ℕ → ℕ → ℕ → StringEntry
entry_of_string text offset len = record { offset = offset; len = len; text = text_at text offset len }

-- as `Next`, for the tables of strings of these texts
pub record NextIn {A : Type 0} (texts : NumberedTexts) (m : M A) (k : Counters) (l : List ℕ) (a : A) (k' : Counters) (l' : List ℕ) : Type 0 where
  pub room : Room k' l'
  pub records : k'.records ≡ k.records
  pub stands : (t : TablesSoFar) → Holds texts t k l → Stands (m t.state) a texts t k' l'

-- the definition's step ends in this error, at this record, from any tables that the arena held
pub record StopsIn {A : Type 0} (texts : NumberedTexts) (m : M A) (k : Counters) (l : List ℕ) (e : ConvertErrorKind) (r : ℕ) : Type 0 where
  pub stops : (t : TablesSoFar) → Holds texts t k l → m t.state ≡ failed e r

-- the bytes vs were written at i, nothing else changed, and the counters are those asked for
pub record Wrote (l : List ℕ) (i : ℕ) (vs : List ℕ) (want k' : Counters) (l' : List ℕ) : Type 0 where
  pub counts : k' ≡ want
  pub wrote : l' ≡ splice l i vs

-- the same of two runs of bytes
pub record WroteTwo (l : List ℕ) (i : ℕ) (vs : List ℕ) (j : ℕ) (ws : List ℕ) (want k' : Counters) (l' : List ℕ) : Type 0 where
  pub counts : k' ≡ want
  pub wrote : l' ≡ splice (splice l i vs) j ws

-- and of three
pub record WroteThree (l : List ℕ) (i : ℕ) (vs : List ℕ) (j : ℕ) (ws : List ℕ) (p : ℕ) (us : List ℕ) (want k' : Counters) (l' : List ℕ) : Type 0 where
  pub counts : k' ≡ want
  pub wrote : l' ≡ splice (splice (splice l i vs) j ws) p us

-- nothing changed
pub record TablesStay (k : Counters) (l : List ℕ) (k' : Counters) (l' : List ℕ) : Type 0 where
  pub counts : k' ≡ k
  pub same : l' ≡ l

-- ---- what each function owes: the definition's step, what it spends, and the entry that it writes

pub record Emits (i : Ir.Instr) (k : Counters) (l : List ℕ) (k' : Counters) (l' : List ℕ) : Type 0 where
  pub next : Next (Ir.emit i) k l tt k' l'
  pub spent : Spent k k' (amount 1 0 0 0 0)
  pub entry : Wrote l (instruction_entry_at k.instructions) (encode_instr i) (more_instructions k) k' l'

pub record AddsVar (y : ℕ) (k : Counters) (l : List ℕ) (r : WithCounters VarId) (l' : List ℕ) : Type 0 where
  pub next : Next (Ir.new_var y) k l (var_of r.value) r.counters l'
  pub typed : r.value.1 ≡ y
  pub spent : Spent k r.counters (amount 0 1 0 0 0)
  pub entry : Wrote l (variable_entry_at k.records k.variables) (encode_var y) (more_variables k) r.counters l'

abbrev pub named : ℕ → ℕ → LabelName
named kind opener = record { kind = kind; opener = opener }

-- a label more: its number at its slot, and its entry behind the others
abbrev pub LabelAdded : ℕ → ℕ → Counters → List ℕ → Counters → List ℕ → Type 0
LabelAdded kind opener k l k' l' =
    WroteTwo l (label_slot k.records (named kind opener)) (word (k.labels - k.labels_before))
    (label_entry_at k.records k.labels) (encode_label (named kind opener)) (more_labels k) k' l'

-- an entry more, or one that was there
pub record NumbersLabel (kind opener : ℕ) (k : Counters) (l : List ℕ) (r : WithCounters Label) (l' : List ℕ) : Type 0 where
  pub next : Next (Ir.label_id (named kind opener)) k l r.value.0 r.counters l'
  pub spent : Spent k r.counters (amount 0 0 1 0 0)
  pub entry : LabelAdded kind opener k l r.counters l' ⊎ TablesStay k l r.counters l'

-- a string more: its place behind the others', the number of its text behind theirs, and its own number at the slot of that
abbrev pub StringAdded : ℕ → ℕ → ℕ → Counters → List ℕ → Counters → List ℕ → Type 0
StringAdded o offset len k l k' l' =
    WroteThree l (string_entry_at k.records k.strings) (word offset ++ word len) (string_number_at k.records k.strings) (word o)
    (string_slot_at k.records o) (word k.strings) (more_strings k) k' l'

-- the string at this place, whose text has the number o: so for all texts whose numbers tell them apart
pub record NumbersString (o offset len : ℕ) (k : Counters) (l : List ℕ) (r : WithCounters ℕ) (l' : List ℕ) : Type 0 where
  pub next : (texts : NumberedTexts) → TellsApart texts.number k.records → texts.number (text_at texts.text offset len) ≡ o
      → NextIn texts (Ir.string_id (entry_of_string texts.text offset len)) k l r.value r.counters l'
  pub spent : Spent k r.counters (amount 0 0 0 1 0)
  pub entry : StringAdded o offset len k l r.counters l' ⊎ TablesStay k l r.counters l'

-- a float more: its bytes behind the others, its link, which leads to one past the last before it in its bucket b, and its number at the bucket's head
abbrev pub FloatAdded : List ℕ → ℕ → ℕ → Counters → List ℕ → Counters → List ℕ → Type 0
FloatAdded bytes b last k l k' l' =
    WroteThree l (float_entry_at k.records k.floats) bytes (float_link_at k.records k.floats) (word last)
    (float_head_at k.records b) (word k.floats) (more_floats k) k' l'

pub record NumbersFloat (e : FloatEntry) (k : Counters) (l : List ℕ) (r : WithCounters ℕ) (l' : List ℕ) : Type 0 where
  pub next : Next (Ir.float_id e) k l r.value r.counters l'
  pub spent : Spent k r.counters (amount 0 0 0 0 1)
  pub entry :
      FloatAdded (encode_float e) (float_entry_bucket k.records e) (float_head l k.records k.floats (float_entry_bucket k.records e)) k l r.counters l'
      ⊎ TablesStay k l r.counters l'

-- ---- a function is done

-- the function's entry, with what stands at hand as its body and tables
abbrev pub closed : ℕ → Bool → TablesSoFar → TablesSoFar
closed r body t = record {
  done = t.done ++ (record { func = r; body = pick body (some t.code) none; vars = t.state.vars; labels = t.state.labels } ∷ []);
  code = [];
  state = record { vars = []; labels = []; strings = t.state.strings; floats = t.state.floats };
}

-- the counters when the next function begins
abbrev pub next_function : Counters → Counters
next_function k = record { records = k.records; instructions = k.instructions; variables = k.variables; labels = k.labels; functions = k.functions + 1; strings = k.strings; floats = k.floats; instructions_before = k.instructions; variables_before = k.variables; labels_before = k.labels }

-- a function without a body leaves no instructions
pub record Closes (r : ℕ) (body : Bool) (k : Counters) (l : List ℕ) (k' : Counters) (l' : List ℕ) : Type 0 where
  pub room : Room k' l'
  pub counts : k' ≡ next_function k
  pub stands : (texts : NumberedTexts) (t : TablesSoFar) → Holds texts t k l → (body ≡ false → t.code ≡ []) → Holds texts (closed r body t) k' l'
