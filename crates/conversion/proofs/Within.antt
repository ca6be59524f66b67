-- How much converting adds, at most: instructions, variables, labels, strings, floats; and what holds of its result.
-- A law for each way in which the definitions put steps together; the amounts add up. Assumes nothing.
use mathlib.Core.Bool.{Bool, true, false}
use mathlib.Core.List.{List, [], ◌∷◌, ◌++◌}
use mathlib.Core.Option.{Option, none, some}
use Prim.Native.Nat.{ℕ, ◌+◌, ◌≤◌}
use native.Mathlib.Omega.{arith}
use lib.ListN.{length, length-append}
use Rattle.laws.specs.Fix.{pick}
use Rattle.syntax.specs.Syntax.{Ty, TInt, TFloat, TBool, TChar, TByte, TAddress, TArray, TCustom, TNull}
use Rattle.conversion.specs.ConvertError.{ConvertErrorKind, Result, ok, err}
use Rattle.conversion.specs.Ir.{Instr, LabelName, StringEntry, FloatEntry, State, Out, made, failed, M, after, bind, ◌>>=◌, ◌>>◌, pure, fail, lift, emit, numbered, position, same_label, same_text, same_float, new_var, label_id, string_id, float_id, float_bits}
use Rattle.conversion.specs.Types.{on_int, on_float}

-- from the state st to the instructions c and the state t: at most so many more
pub record Grew (i v l s f : ℕ) (st : State) (c : List Instr) (t : State) : Type 0 where
  pub code : length c ≤ i
  pub vars : length t.vars ≤ length st.vars + v
  pub labels : length t.labels ≤ length st.labels + l
  pub strings : length t.strings ≤ length st.strings + s
  pub floats : length t.floats ≤ length st.floats + f

pub data Grown {A : Type 0} (Q : A → Type 0) (i v l s f : ℕ) (st : State) : Out A → Type 0 where
  grew : (a : A) (c : List Instr) (t : State) → Q a → Grew i v l s f st c t → Grown Q i v l s f st (made a c t)
  fell : (k : ConvertErrorKind) (r : ℕ) → Grown Q i v l s f st (failed k r)

-- m adds at most i instructions, v variables, l labels, s strings, f floats, and leaves a result of which Q holds
pub record Within {A : Type 0} (Q : A → Type 0) (i v l s f : ℕ) (m : M A) : Type 0 where
  pub holds : (st : State) → Grown Q i v l s f st (m st)

abbrev pub Any : {A : Type 0} → A → Type 0
Any a = Unit {0}

one_more : {X : Type 0} (l : List X) (x : X) → length (l ++ (x ∷ [])) ≤ length l + 1
one_more l x = rw (length-append l (x ∷ [])) (omega arith)

-- ---- one step

pub pure-within : {A : Type 0} (Q : A → Type 0) (a : A) → Q a → Within Q 0 0 0 0 0 (pure a)
unfolding pure
pure-within Q a q = record { holds = λ st. grew a [] st q (omega arith) }

pub fail-within : {A : Type 0} (Q : A → Type 0) (i v l s f : ℕ) (k : ConvertErrorKind) (r : ℕ) → Within Q i v l s f (fail k r)
unfolding fail
fail-within Q i v l s f k r = record { holds = λ st. fell _ _ }

pub lift-within : {A : Type 0} (x : Result A) → Within Any 0 0 0 0 0 (lift x)
unfolding lift
lift-within (ok a) = record { holds = λ st. grew a [] st tt (omega arith) }
lift-within (err k r) = record { holds = λ st. fell _ _ }

pub emit-within : (x : Instr) → Within Any 1 0 0 0 0 (emit x)
unfolding emit
emit-within x = record { holds = λ st. grew tt (x ∷ []) st tt (omega arith) }

pub new_var-within : (y : ℕ) → Within Any 0 1 0 0 0 (new_var y)
unfolding new_var
new_var-within y = record {
  holds = λ st. grew _ []
      (record { vars = st.vars ++ (y ∷ []); labels = st.labels; strings = st.strings; floats = st.floats }) tt (omega (arith, one_more st.vars y));
}

pub float_bits-within : (i : ℕ) → Within Any 0 0 0 0 0 (float_bits i)
unfolding float_bits
float_bits-within i = record { holds = λ st. grew _ [] st tt (omega arith) }

label_numbered : (o : Option ℕ) (x : LabelName) (st : State)
    → Grown Any 0 0 1 0 0 st (numbered o st (record { vars = st.vars; labels = st.labels ++ (x ∷ []); strings = st.strings; floats = st.floats }) (length st.labels))
unfolding numbered
label_numbered none x st = grew _ [] (record { vars = st.vars; labels = st.labels ++ (x ∷ []); strings = st.strings; floats = st.floats }) tt (omega (arith, one_more st.labels x))
label_numbered (some n) x st = grew n [] st tt (omega arith)

pub label_within : (x : LabelName) → Within Any 0 0 1 0 0 (label_id x)
unfolding label_id
label_within x = record { holds = λ st. label_numbered (position (same_label x) st.labels) x st }

string_numbered : (o : Option ℕ) (x : StringEntry) (st : State)
    → Grown Any 0 0 0 1 0 st (numbered o st (record { vars = st.vars; labels = st.labels; strings = st.strings ++ (x ∷ []); floats = st.floats }) (length st.strings))
unfolding numbered
string_numbered none x st = grew _ [] (record { vars = st.vars; labels = st.labels; strings = st.strings ++ (x ∷ []); floats = st.floats }) tt (omega (arith, one_more st.strings x))
string_numbered (some n) x st = grew n [] st tt (omega arith)

pub string_within : (x : StringEntry) → Within Any 0 0 0 1 0 (string_id x)
unfolding string_id
string_within x = record { holds = λ st. string_numbered (position (λ y. same_text x.text y.text) st.strings) x st }

float_numbered : (o : Option ℕ) (x : FloatEntry) (st : State)
    → Grown Any 0 0 0 0 1 st (numbered o st (record { vars = st.vars; labels = st.labels; strings = st.strings; floats = st.floats ++ (x ∷ []) }) (length st.floats))
unfolding numbered
float_numbered none x st = grew _ [] (record { vars = st.vars; labels = st.labels; strings = st.strings; floats = st.floats ++ (x ∷ []) }) tt (omega (arith, one_more st.floats x))
float_numbered (some n) x st = grew n [] st tt (omega arith)

pub float_within : (x : FloatEntry) → Within Any 0 0 0 0 1 (float_id x)
unfolding float_id
float_within x = record { holds = λ st. float_numbered (position (same_float x) st.floats) x st }

-- ---- one step after another

chain : {B : Type 0} {R : B → Type 0} {i v l s f i' v' l' s' f' : ℕ} {st : State} {c : List Instr} {t : State} {o : Out B}
    → Grew i v l s f st c t → Grown R i' v' l' s' f' t o → Grown R (i + i') (v + v') (l + l') (s + s') (f + f') st (after c o)
unfolding after
chain {c = c} g (grew b d u q h) = grew b (c ++ d) u q (record {
  code = rw (length-append c d) (omega (arith, g.code, h.code));
  vars = omega (arith, g.vars, h.vars);
  labels = omega (arith, g.labels, h.labels);
  strings = omega (arith, g.strings, h.strings);
  floats = omega (arith, g.floats, h.floats);
})
chain g (fell k r) = fell k r

bound : {A B : Type 0} {Q : A → Type 0} {R : B → Type 0} {i v l s f i' v' l' s' f' : ℕ} {st : State} {o : Out A} (k : A → M B)
    → Grown Q i v l s f st o → ((a : A) → Q a → Within R i' v' l' s' f' (k a)) → Grown R (i + i') (v + v') (l + l') (s + s') (f + f') st (bind o k)
unfolding bind
bound k (grew a c t q g) h = chain g ((h a q).holds t)
bound k (fell e r) h = fell e r

-- the second step may use what holds of the first's result
pub then_using : {A B : Type 0} {Q : A → Type 0} {R : B → Type 0} {i v l s f i' v' l' s' f' : ℕ} {m : M A} {k : A → M B}
    → Within Q i v l s f m → ((a : A) → Q a → Within R i' v' l' s' f' (k a)) → Within R (i + i') (v + v') (l + l') (s + s') (f + f') (m >>= k)
unfolding ◌>>=◌
then_using {k = k} w h = record { holds = λ st. bound k (w.holds st) h }

pub then_within : {A B : Type 0} {Q : A → Type 0} {R : B → Type 0} {i v l s f i' v' l' s' f' : ℕ} {m : M A} {k : A → M B}
    → Within Q i v l s f m → ((a : A) → Within R i' v' l' s' f' (k a)) → Within R (i + i') (v + v') (l + l') (s + s') (f + f') (m >>= k)
then_within w h = then_using w (λ a q. h a)

pub seq_within : {A B : Type 0} {Q : A → Type 0} {R : B → Type 0} {i v l s f i' v' l' s' f' : ℕ} {m : M A} {k : M B}
    → Within Q i v l s f m → Within R i' v' l' s' f' k → Within R (i + i') (v + v') (l + l') (s + s') (f + f') (m >> k)
unfolding ◌>>◌
seq_within {k = k} w h = record { holds = λ st. bound (λ a. k) (w.holds st) (λ a q. h) }

-- ---- more room, and choices

wider : {A : Type 0} {Q : A → Type 0} {i v l s f i' v' l' s' f' : ℕ} {st : State} {o : Out A}
    → (i ≤ i') × (v ≤ v') × (l ≤ l') × (s ≤ s') × (f ≤ f') → Grown Q i v l s f st o → Grown Q i' v' l' s' f' st o
wider b (grew a c t q g) = grew a c t q (record {
  code = omega (arith, g.code, b.0);
  vars = omega (arith, g.vars, b.1);
  labels = omega (arith, g.labels, b.2);
  strings = omega (arith, g.strings, b.3);
  floats = omega (arith, g.floats, b.4);
})
wider b (fell k r) = fell k r

pub widen : {A : Type 0} {Q : A → Type 0} {i v l s f i' v' l' s' f' : ℕ} {m : M A}
    → Within Q i v l s f m → (i ≤ i') × (v ≤ v') × (l ≤ l') × (s ≤ s') × (f ≤ f') → Within Q i' v' l' s' f' m
widen w b = record { holds = λ st. wider b (w.holds st) }

pub pick-within : {A : Type 0} {Q : A → Type 0} {i v l s f : ℕ} {m k : M A} (b : Bool)
    → Within Q i v l s f m → Within Q i v l s f k → Within Q i v l s f (pick b m k)
unfolding pick
pick-within true w h = w
pick-within false w h = h

pub on_int-within : {A : Type 0} {Q : A → Type 0} {i v l s f : ℕ} {m : M A} {k : Bool → Bool → M A} (t : Ty)
    → Within Q i v l s f m → ((short unsigned : Bool) → Within Q i v l s f (k short unsigned)) → Within Q i v l s f (on_int t m k)
unfolding on_int
on_int-within (TInt short unsigned) w h = h short unsigned
on_int-within (TFloat short) w h = w
on_int-within TBool w h = w
on_int-within TChar w h = w
on_int-within TByte w h = w
on_int-within (TAddress y) w h = w
on_int-within (TArray y n) w h = w
on_int-within (TCustom t) w h = w
on_int-within TNull w h = w

pub on_float-within : {A : Type 0} {Q : A → Type 0} {i v l s f : ℕ} {m : M A} {k : Bool → M A} (t : Ty)
    → Within Q i v l s f m → ((short : Bool) → Within Q i v l s f (k short)) → Within Q i v l s f (on_float t m k)
unfolding on_float
on_float-within (TFloat short) w h = h short
on_float-within (TInt short unsigned) w h = w
on_float-within TBool w h = w
on_float-within TChar w h = w
on_float-within TByte w h = w
on_float-within (TAddress y) w h = w
on_float-within (TArray y n) w h = w
on_float-within (TCustom t) w h = w
on_float-within TNull w h = w
