-- The functions by key and `main`, case by case as the code meets them: what a turn, a search and a check answer, and what the definitions say there.
-- Each is the definition, its tests replaced by what the callees ensure. Assumes nothing.
use mathlib.Core.Path.{◌≡◌, refl, sym, ap, ◌∙◌}
use mathlib.Core.Logic.{◌⊎◌, inl, inr}
use mathlib.Core.Bool.{Bool, true, false, false≢true}
use mathlib.Core.List.{List, [], ◌∷◌, ◌++◌}
use mathlib.Core.Option.{Option, none as nothing, some}
use Prim.Native.Nat.{ℕ, ◌+◌, ◌*◌, ◌%◌, ◌≤◌, ◌<◌}
use native.Mathlib.Omega.{arith}
use lib.Dec.{eqb}
use lib.ListN.{length, get_or}
use borrow.Author.Tests.{eq-eqb, ne_eqb}
use Rattle.laws.specs.Fix.{pick}
use Rattle.records.specs.declared.convert_error.ConvertError.{ConvertError}
use Rattle.records.specs.declared.convert_error.ConvertErrorKind.{ConvertErrorKind}
use Rattle.records.specs.Words.{word_at, word_of, text_at, detail_of, records, none, D}
use Rattle.records.specs.Good.{Good}
use Rattle.records.specs.Chains.{Cleared}
use Rattle.records.proofs.Apart.{word_same}
use Rattle.records.proofs.GoodLaws.{inside}
use Rattle.syntax.specs.Syntax.{Text, Function}
use Rattle.syntax.specs.Decode.{program, type_at, reference}
use Rattle.conversion.specs.ConvertError.{ok, err, SameSignature, SameSymbol, LatinCharInNonLibCFunction, ExternNotLatin, NoMain, MainNotInteger}
use Rattle.conversion.specs.Ir.{same_text}
use Rattle.conversion.specs.Expressions.{is_mangled, get_function, main_name}
use Rattle.conversion.specs.Functions.{is_ascii, add_function, find_main, returns_int, main_checked, check_main}
use Rattle.keys.specs.declared.parts.Part.{Part}
use Rattle.std.specs.Prelude.{Option as StdOption, Some, None, is_some, Ok, Err}
use Rattle.syntax.specs.Places.{TypeAt, FunctionAt, function_of}
use Rattle.keys.specs.Parts.{PartIs}
use Rattle.keys.specs.Keys.{function_key, keys_below, function_places, Listed, KeySlots, key_entered, function_found}
use Rattle.texts.specs.Texts.{original_at, text_digest_at, Numbered}
use Rattle.functions.specs.Functions.{TurnMeets, listed_in, ListKeeps, AllMeet, done, refused}
use Rattle.expressions.specs.Answers.{OrRefused, refusal, outcome_of, done_with}
use Rattle.syntax.proofs.Records.{function_rec, function-return, return-is}
use Rattle.functions.proofs.Listing.{listed-length, are-listed, listed-behind, still_numbered}
use Rattle.texts.proofs.TextLaws.{numbered-stays}
use Rattle.expressions.proofs.OperandLaws.{int_form}
use Rattle.functions.proofs.Turns.{Left, left_start, left-more, left-stop, left_end, MainLeft, main_more, main_hit, main_end}
use Rattle.keys.proofs.KeySearch.{records-most}
use Rattle.keys.proofs.SlotLaws.{slots-none, entered-long, entered-byte, slots-more}
use Rattle.keys.proofs.KeyLaws.{key_mangled, key_plain, keys_none, keys-more, keys-all, turn-new, turn_latin, turn_signature, turn_mangled, turn_foreign, turn_symbol, turn_plain}

-- ---- what a search answered

module _ (tree text : List ℕ) (o : StdOption ℕ) (m : Option Function) (e : function_found tree text o ≡ m) where
  pub found_at : (g : ℕ) → o ≡ Some g → m ≡ some (function_of tree text g)
  unfolding function_found
  found_at g q = sym e ∙ ap (function_found tree text) q

  pub found_nothing : o ≡ None → m ≡ nothing
  unfolding function_found
  found_nothing q = sym e ∙ ap (function_found tree text) q

found_there : (o : StdOption ℕ) → is_some o ≡ true → (g : ℕ) × (o ≡ Some g)
found_there (Some g) t = (g, refl)
found_there None t = absurd (false≢true t)

found_nowhere : (o : StdOption ℕ) → is_some o ≡ false → o ≡ None
found_nowhere (Some g) t = absurd (false≢true (sym t))
found_nowhere None t = refl

-- ---- a turn of `get_all_functions`

module _ (tree text s : List ℕ) (j f : ℕ) (good : Good tree text) (l : Listed tree s) (h : j < length (function_places tree))
    (is : (f ≡ word_at s (4 * j)) × FunctionAt tree f) where
  -- what the turn owes of its answer
  abbrev Owed : OrRefused (Unit {0}) → Type 0
  Owed r = TurnMeets tree text s j r

  start : add_function (function_of tree text (word_at s (4 * j))) (keys_below tree text j) ≡ add_function (function_of tree text f) (keys_below tree text j)
  start = ap (λ (x : ℕ). add_function (function_of tree text x) (keys_below tree text j)) (sym is.0)

  turned_away : (k : ConvertErrorKind) (r : OrRefused (Unit {0})) → add_function (function_of tree text f) (keys_below tree text j) ≡ err k (function_of tree text f).rec_of
      → r ≡ Err (record { kind = k; place = f }) → Owed r
  unfolding done_with refusal
  turned_away k r e q = start ∙ e ∙ rw (function_rec tree text good f is.1, q)

  taken_in : add_function (function_of tree text f) (keys_below tree text j) ≡ ok (keys_below tree text j ++ ((function_key (function_of tree text f), function_of tree text f) ∷ []))
      → Owed (Ok tt)
  unfolding done_with
  taken_in e =
      let p : get_or (function_places tree) j 0 ≡ f = sym (is.0 ∙ l.listed j h) in
      start ∙ e ∙ rw (keys-more tree text j h, p)

  module _ (m a : Bool) (n : Part) (em : m ≡ is_mangled (function_of tree text f)) (named : PartIs text n (function_of tree text f).name)
      (ea : a ≡ is_ascii (text_at text n.offset n.len)) where
    mangled : (b : Bool) → m ≡ b → is_mangled (function_of tree text f) ≡ b
    mangled b q = sym em ∙ q

    ascii : (b : Bool) → a ≡ b → is_ascii (function_of tree text f).name ≡ b
    ascii b q = ap is_ascii (sym named.is) ∙ sym ea ∙ q

    pub is_latin : m ≡ true → a ≡ true → (r : OrRefused (Unit {0})) → r ≡ Err (record { kind = LatinCharInNonLibCFunction; place = f }) → Owed r
    is_latin q w r e = turned_away LatinCharInNonLibCFunction r (turn_latin (function_of tree text f) (keys_below tree text j) (mangled true q) (ascii true w)) e

    pub is_foreign : m ≡ false → a ≡ false → (r : OrRefused (Unit {0})) → r ≡ Err (record { kind = ExternNotLatin; place = f }) → Owed r
    is_foreign q w r e = turned_away ExternNotLatin r (turn_foreign (function_of tree text f) (keys_below tree text j) (mangled false q) (ascii false w)) e

    -- the function that is entered with its key
    module _ (o : StdOption ℕ) (eo : function_found tree text o ≡ get_function (function_key (function_of tree text f)) (keys_below tree text j)) where
      -- by its mangled name
      long-is : m ≡ true → function_found tree text o ≡ get_function (function_of tree text f).mangled_name (keys_below tree text j)
      long-is q = eo ∙ ap (λ (t : Text). get_function t (keys_below tree text j)) (key_mangled (function_of tree text f) (mangled true q))

      pub signature_taken : m ≡ true → a ≡ false → is_some o ≡ true → (r : OrRefused (Unit {0}))
          → r ≡ Err (record { kind = SameSignature; place = f }) → Owed r
      signature_taken q w t r e =
          let g = found_there o t in
          turned_away SameSignature r
          (turn_signature (function_of tree text f) (keys_below tree text j) (mangled true q) (ascii false w) (function_of tree text g.0)
          (found_at tree text o (get_function (function_of tree text f).mangled_name (keys_below tree text j)) (long-is q) g.0 g.1)) e

      pub signature_new : m ≡ true → a ≡ false → is_some o ≡ false → Owed (Ok tt)
      signature_new q w t =
          taken_in
          (turn_mangled (function_of tree text f) (keys_below tree text j) (mangled true q) (ascii false w)
          (found_nothing tree text o (get_function (function_of tree text f).mangled_name (keys_below tree text j)) (long-is q) (found_nowhere o t)))

      -- by its name
      short-is : m ≡ false → function_found tree text o ≡ get_function (function_of tree text f).name (keys_below tree text j)
      short-is q = eo ∙ ap (λ (t : Text). get_function t (keys_below tree text j)) (key_plain (function_of tree text f) (mangled false q))

      pub symbol_taken : m ≡ false → a ≡ true → is_some o ≡ true → (r : OrRefused (Unit {0}))
          → r ≡ Err (record { kind = SameSymbol; place = f }) → Owed r
      symbol_taken q w t r e =
          let g = found_there o t in
          turned_away SameSymbol r
          (turn_symbol (function_of tree text f) (keys_below tree text j) (mangled false q) (ascii true w) (function_of tree text g.0)
          (found_at tree text o (get_function (function_of tree text f).name (keys_below tree text j)) (short-is q) g.0 g.1)) e

      pub symbol_new : m ≡ false → a ≡ true → is_some o ≡ false → Owed (Ok tt)
      symbol_new q w t =
          taken_in
          (turn_plain (function_of tree text f) (keys_below tree text j) (mangled false q) (ascii true w)
          (found_nothing tree text o (get_function (function_of tree text f).name (keys_below tree text j)) (short-is q) (found_nowhere o t)))

-- ---- `main`

module _ (tree text : List ℕ) (good : Good tree text) (f : ℕ) (at : FunctionAt tree f) (y : ℕ) (ey : y ≡ word_of tree f D) where
  pub returns-none : y ≡ none → false ≡ returns_int (type_at tree text) (function_of tree text f).return_type
  unfolding returns_int reference pick
  returns-none e = rw (function-return tree text good f at, eq-eqb (word_of tree f D) none (sym ey ∙ e))

  pub returns-inside : (y ≡ none → ⊥) → y * 32 + 32 ≤ length tree
  returns-inside n = go (return-is tree text good f at)
    where
      go : (word_of tree f D ≡ none) ⊎ TypeAt tree (word_of tree f D) → y * 32 + 32 ≤ length tree
      go (inl e) = absurd (n (ey ∙ e))
      go (inr t) = inside tree text good y (omega (arith, t.below, ey))

  pub returns-type : (y ≡ none → ⊥) → (k : ℕ) → k ≡ detail_of tree y % 16 → eqb k 1 ≡ returns_int (type_at tree text) (function_of tree text f).return_type
  unfolding returns_int reference pick
  returns-type n k e =
      rw (function-return tree text good f at, ne_eqb (word_of tree f D) none (λ q. n (ey ∙ q)), ← ey) (int_form tree text y k e)

module _ (tree text : List ℕ) (o : StdOption ℕ) (needs : Bool) (e : function_found tree text o ≡ find_main (program tree text).functions) where
  found : (m : Option Function) → find_main (program tree text).functions ≡ m → check_main (program tree text) needs ≡ main_checked (type_at tree text) needs m
  unfolding check_main program
  found m q = ap (λ (x : Option Function). main_checked (type_at tree text) needs x) q

  module _ (g : ℕ) (q : o ≡ Some g) (b : Bool) (eb : b ≡ returns_int (type_at tree text) (function_of tree text g).return_type) where
    pub main_fine : b ≡ true → check_main (program tree text) needs ≡ outcome_of (Ok tt)
    unfolding main_checked pick outcome_of
    main_fine w = found (some (function_of tree text g)) (found_at tree text o (find_main (program tree text).functions) e g q) ∙ rw (sym eb ∙ w)

    pub main_other : b ≡ false → Good tree text → FunctionAt tree g → (r : OrRefused (Unit {0})) → r ≡ Err (record { kind = MainNotInteger; place = g })
        → check_main (program tree text) needs ≡ outcome_of r
    unfolding main_checked pick outcome_of refusal
    main_other w good at r er =
        found (some (function_of tree text g)) (found_at tree text o (find_main (program tree text).functions) e g q)
        ∙ rw (sym eb ∙ w, function_rec tree text good g at, er)

  module _ (q : o ≡ None) where
    pub main_missing : needs ≡ true → (r : OrRefused (Unit {0})) → r ≡ Err (record { kind = NoMain; place = none }) → check_main (program tree text) needs ≡ outcome_of r
    unfolding main_checked pick outcome_of refusal
    main_missing w r er = found nothing (found_nothing tree text o (find_main (program tree text).functions) e q) ∙ rw (w, er)

    pub main_spared : needs ≡ false → check_main (program tree text) needs ≡ outcome_of (Ok tt)
    unfolding main_checked pick outcome_of
    main_spared w = found nothing (found_nothing tree text o (find_main (program tree text).functions) e q) ∙ rw w

-- ---- the search for `main`

module _ (tree text s : List ℕ) (j : ℕ) (l : Listed tree s) where
  module _ (h : j < length (function_places tree)) (f : ℕ) (is : (f ≡ word_at s (4 * j)) × FunctionAt tree f) (n : Part) (b : Bool) (named : PartIs text n (function_of tree text f).name)
      (eb : b ≡ same_text (text_at text n.offset n.len) main_name) where
    this : get_or (function_places tree) j 0 ≡ f
    this = sym (is.0 ∙ l.listed j h)

    same : (q : Bool) → b ≡ q → same_text (function_of tree text (get_or (function_places tree) j 0)).name main_name ≡ q
    same q e = rw this (ap (λ (t : Text). same_text t main_name) (sym named.is) ∙ sym eb ∙ e)

    pub main_here : b ≡ true → MainLeft tree text j → function_found tree text (Some f) ≡ find_main (program tree text).functions
    unfolding function_found
    main_here q w = sym (main_hit tree text j h (same true q) w ∙ ap (λ (x : ℕ). some (function_of tree text x)) this)

    pub main_next : b ≡ false → MainLeft tree text j → MainLeft tree text (j + 1)
    main_next q w = main_more tree text j h (same false q) w

  pub main_nowhere : (count : ℕ) → count ≡ length (function_places tree) → count ≤ j → MainLeft tree text j → function_found tree text None ≡ find_main (program tree text).functions
  unfolding function_found
  main_nowhere count e h w = sym (main_end tree text j (omega (arith, e)) w)

-- ---- all turns

-- the first j functions are entered by their keys, and what was asked equals what is left; s₀ is the scratch where the turns begin
pub record Entered (tree text s₀ s : List ℕ) (count j : ℕ) : Type 0 where
  pub counted : count ≡ length (function_places tree)
  pub below : j ≤ count
  pub left : Left tree text j
  pub numbered : Numbered tree text s
  pub listed : Listed tree s
  pub slots : KeySlots tree text s (keys_below tree text j)
  pub keeps : ListKeeps tree s₀ s

-- what stands before the slots stays, so the list and the texts' numbers do; and what stands behind them, the texts' digests
module _ (tree s s' : List ℕ) (long : length s' ≡ length s) (same : (i : ℕ) → i < 44 * records tree → get_or s' i 0 ≡ get_or s i 0) where
  word-before : (p : ℕ) → p + 4 ≤ 44 * records tree → word_at s' p ≡ word_at s p
  word-before p h =
      word_same s' p s p (same p (omega arith)) (same (p + 1) (omega arith)) (same (p + 2) (omega arith)) (same (p + 3) (omega arith))

  list-stays : Listed tree s → Listed tree s'
  list-stays l = record {
    room = omega (arith, l.room, long);
    listed = λ j h. word-before (4 * j) (omega (arith, records-most tree (records tree))) ∙ l.listed j h;
  }

  module _ (rest : (i : ℕ) → 48 * records tree ≤ i → get_or s' i 0 ≡ get_or s i 0) where
    word-behind : (p : ℕ) → 48 * records tree ≤ p → word_at s' p ≡ word_at s p
    word-behind p h =
        word_same s' p s p (rest p (omega arith)) (rest (p + 1) (omega arith)) (rest (p + 2) (omega arith)) (rest (p + 3) (omega arith))

    texts_stay : (text : List ℕ) → Numbered tree text s → Numbered tree text s'
    texts_stay text =
        numbered-stays tree text s s' (λ r h t. word-before (original_at (records tree) r) (omega arith)) (λ r h t. word-behind (text_digest_at (records tree) r) (omega arith))

-- the functions are listed, and no slot is taken
module _ (tree text s₀ : List ℕ) (count : ℕ) (good : Good tree text) (room : 72 * records tree ≤ length s₀) (s₁ s : List ℕ)
    (made : (s₁ ≡ listed_in tree s₀) × (count ≡ length (function_places tree))) (c : Cleared (44 * records tree) (48 * records tree) s₁ s) where
  pub start_keeps : ListKeeps tree s₀ s
  start_keeps =
      record {
        long = c.long ∙ ap length made.0 ∙ listed-length tree text s₀ good room;
        between = λ i a b. c.before i b ∙ ap (λ (x : List ℕ). get_or x i 0) made.0 ∙ listed-behind tree text s₀ good room i a;
        behind = λ i a. c.behind i a ∙ ap (λ (x : List ℕ). get_or x i 0) made.0 ∙ listed-behind tree text s₀ good room i (omega (arith, records-most tree (records tree)));
      }

  pub entered_start : Numbered tree text s₀ → Entered tree text s s count 0
  entered_start numbered =
      record {
        counted = made.1;
        below = omega arith;
        left = left_start tree text;
        numbered = texts_stay tree s₁ s c.long c.before c.behind text (rw made.0 (still_numbered tree text s₀ good room numbered));
        listed = list-stays tree s₁ s c.long c.before (rw made.0 (are-listed tree text s₀ good room));
        slots = rw (keys_none tree text) (slots-none tree text s₁ s c);
        keeps = record { long = refl; between = λ i a b. refl; behind = λ i a. refl };
      }

keeps_on : {tree s s₁ s₂ : List ℕ} → ListKeeps tree s s₁ → ListKeeps tree s₁ s₂ → ListKeeps tree s s₂
keeps_on a b = record { long = b.long ∙ a.long; between = λ i h k. b.between i h k ∙ a.between i h k; behind = λ i h. b.behind i h ∙ a.behind i h }

module _ (tree text s₀ : List ℕ) (count : ℕ) (good : Good tree text) where
  module _ (s : List ℕ) (j : ℕ) (w : Entered tree text s₀ s count j) (h : j < count) (o : OrRefused (Unit {0})) (e : TurnMeets tree text s j o) where
    inside-list : j < length (function_places tree)
    inside-list = omega (arith, w.counted)

    turn_is : add_function (function_of tree text (get_or (function_places tree) j 0)) (keys_below tree text j) ≡ done_with (keys_below tree text (j + 1)) o
    turn_is = rw (w.listed.listed j inside-list) at e

    pub entered-refused : (t : List ℕ) → ListKeeps tree t s₀ → (x : ConvertError) → o ≡ Err x → AllMeet tree text t s (Err x)
    unfolding done_with refusal
    entered-refused t first x q =
        refused (keeps_on first w.keeps) w.listed
        (left-stop tree text j x.kind x.place inside-list (turn_is ∙ ap (done_with (keys_below tree text (j + 1))) q) w.left)

    module _ (q : o ≡ (Ok tt)) (f : ℕ) (is : (f ≡ word_at s (4 * j)) × FunctionAt tree f) (s' : List ℕ) (put : s' ≡ key_entered tree text f s) where
      turn-done : add_function (function_of tree text (get_or (function_places tree) j 0)) (keys_below tree text j) ≡ ok (keys_below tree text (j + 1))
      unfolding done_with
      turn-done = turn_is ∙ ap (done_with (keys_below tree text (j + 1))) q

      listed-there : get_or (function_places tree) j 0 ≡ f
      listed-there = sym (is.0 ∙ w.listed.listed j inside-list)

      new : get_function (function_key (function_of tree text f)) (keys_below tree text j) ≡ nothing
      new = turn-new (function_of tree text f) (keys_below tree text j) (keys_below tree text (j + 1)) (rw listed-there at turn-done)

      one_more : keys_below tree text (j + 1) ≡ keys_below tree text j ++ ((function_key (function_of tree text f), function_of tree text f) ∷ [])
      one_more = rw listed-there at (keys-more tree text j inside-list)

      long : length s' ≡ length s
      long = entered-long tree text s good w.listed.room f is.1 s' put

      stays : (i : ℕ) → i < 44 * records tree → get_or s' i 0 ≡ get_or s i 0
      stays i a = entered-byte tree text s good w.listed.room f is.1 s' put i (inl a)

      pub entered-next : Entered tree text s₀ s' count (j + 1)
      entered-next =
          record {
            counted = w.counted;
            below = omega arith;
            left = left-more tree text j inside-list turn-done w.left;
            numbered = texts_stay tree s s' long stays (λ i a. entered-byte tree text s good w.listed.room f is.1 s' put i (inr a)) text w.numbered;
            listed = list-stays tree s s' long stays w.listed;
            slots = rw one_more (slots-more tree text s good w.listed.room f is.1 s' put (keys_below tree text j) w.slots new);
            keeps = record {
              long = long ∙ w.keeps.long;
              between = λ i a b. stays i b ∙ w.keeps.between i a b;
              behind = λ i a. entered-byte tree text s good w.listed.room f is.1 s' put i (inr a) ∙ w.keeps.behind i a;
            };
          }

  pub entered-done : (t : List ℕ) → ListKeeps tree t s₀ → (s : List ℕ) (j : ℕ) → Entered tree text s₀ s count j → count ≤ j → AllMeet tree text t s (Ok count)
  entered-done t first s j w h =
      let all : length (function_places tree) ≤ j = omega (arith, w.counted) in
      done (keeps_on first w.keeps) (record {
        good = good;
        numbered = w.numbered;
        distinct = left_end tree text j all w.left;
        listed = w.listed;
        slots = rw (keys-all tree text j all) at w.slots;
      })
      w.counted
