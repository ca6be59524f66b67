-- The function of a verb and its arguments: by the verb, by a whole name, and these and the longest prefix one after the other, as the code looks for them.
-- By the laws of a key looked for and of what a walk along its chain finds. Assumes nothing.
use Rattle.std.specs.Prelude.{Option as StdOption, Some, None, MatchOption}
use Rattle.std.specs.Bool.{then_some}
use mathlib.Core.Path.{◌≡◌, refl, sym, ap, ◌∙◌}
use mathlib.Core.Bool.{Bool, true, false}
use mathlib.Core.List.{List}
use mathlib.Core.Option.{Option, none, some}
use Prim.Native.Nat.{ℕ, ◌+◌, ◌-◌, ◌≤◌, ◌<◌}
use native.Mathlib.Omega.{arith}
use lib.ListN.{length, take}
use Rattle.laws.specs.Below.{or_else}
use Rattle.laws.specs.Fix.{pick}
use Rattle.records.specs.Digest.{roll_of}
use Rattle.records.specs.Words.{text_at, word_at, records}
use Rattle.syntax.specs.Syntax.{Text, Function}
use Rattle.syntax.specs.Decode.{program}
use Rattle.conversion.specs.Ir.{same_text}
use Rattle.conversion.specs.Expressions.{is_mangled, get_function, filter_option, suffixes, joined, mangled_function, find_exact_function}
use Rattle.records.proofs.RollLaws.{roll_small}
use Rattle.records.proofs.TextLaws.{other-lengths}
use Rattle.keys.specs.declared.parts.Part.{Part}
use Rattle.expressions.specs.declared.arguments.Call.{Call}
use Rattle.syntax.specs.Places.{FunctionAt, function_of}
use Rattle.keys.specs.Parts.{PartIs}
use Rattle.texts.specs.Texts.{text_digest_at, Numbered}
use Rattle.texts.proofs.TextLaws.{original-below, original-digest}
use Rattle.keys.specs.Keys.{function_key, all_keys, Keyed, FindsKey, function_found, FunctionFound, FunctionIs, a_function, none_found}
use Rattle.expressions.specs.Calls.{typed_at, suffixes_at, verb_of, name_of, bytes_in, Called, suffix_text, suffixes_stand, by_name, by_full_name, by_prefix, exactly}
use Rattle.keys.proofs.FunctionLaws.{found-function}
use Rattle.expressions.proofs.NameLaws.{same-turned, part_length, name-length, name_pieces, all-taken}

-- ---- an answer, and what it stands for

module _ (tree text : List ℕ) where
  -- found and kept, found and left, and not found
  module _ (p : Function → Bool) (o : Option Function) (r : StdOption ℕ) (is : function_found tree text r ≡ o) where
    pub filter_hit : (f : ℕ) (b : Bool) → FunctionFound tree r → r ≡ Some f → b ≡ p (function_of tree text f) → b ≡ true
        → FunctionIs tree text (Some f) (filter_option p o)
    unfolding function_found filter_option pick
    filter_hit f b w e q t = record {
      is = rw (sym is, e, sym q, t) refl;
      function = a_function (found-function tree r f w e);
    }

    pub filter-left : (f : ℕ) (b : Bool) → r ≡ Some f → b ≡ p (function_of tree text f) → b ≡ false
        → FunctionIs tree text None (filter_option p o)
    unfolding function_found filter_option pick
    filter-left f b e q t = record { is = rw (sym is, e, sym q, t) refl; function = none_found }

    pub filter_none : r ≡ None → FunctionIs tree text None (filter_option p o)
    unfolding function_found filter_option
    filter_none e = record { is = rw (sym is, e) refl; function = none_found }

  -- a function alone
  pub mangled_then : (f : ℕ) (b : Bool) → FunctionAt tree f → b ≡ is_mangled (function_of tree text f)
      → FunctionIs tree text (then_some b f) (filter_option is_mangled (some (function_of tree text f)))
  unfolding function_found
  mangled_then f true a q = filter_hit is_mangled (some (function_of tree text f)) (Some f) refl f true (a_function a) refl q refl
  mangled_then f false a q = filter-left is_mangled (some (function_of tree text f)) (Some f) refl f false refl q refl

-- ---- a call's names

module _ (tree text s : List ℕ) (c : Call) where
  pub full_is : (n : ℕ) → Called tree text s c → n ≡ bytes_in (suffixes_at tree text s c.first)
      → c.len + n ≡ length (name_of tree text s c c.count)
  full_is n h e =
      ap (λ (m : ℕ). c.len + m) e
      ∙ sym (name-length tree text s c c.count h ∙ ap (λ (l : List Text). c.len + bytes_in l) (all-taken tree text s c h))

  module _ (h : Called tree text s c) (k : ℕ) (p : Part) (size : p.len ≡ length (name_of tree text s c k)) where
    pub verb-inside : c.len ≤ p.len
    verb-inside = omega (arith, name-length tree text s c k h)

    left-bytes : p.len - c.len ≡ bytes_in (take k (suffixes_at tree text s c.first))
    left-bytes = omega (arith, name-length tree text s c k h)

    pub suffixes-inside : p.offset + p.len ≤ length text → p.offset + c.len + bytes_in (take k (suffixes_at tree text s c.first)) ≤ length text
    suffixes-inside room = omega (arith, room, name-length tree text s c k h)

    module _ (room : p.offset + p.len ≤ length text) (r : Bool) (e : r ≡ same_text (text_at text p.offset c.len) (text_at text c.offset c.len)) where
      pub name-other : r ≡ false → false ≡ same_text (text_at text p.offset p.len) (name_of tree text s c k)
      name-other q = sym (name_pieces tree text s c k p.offset p.len h size room ∙ rw (sym e ∙ q) refl)

      pub name-same : r ≡ true → (b : Bool)
          → b ≡ suffixes_stand tree text s c.first k (p.offset + c.len)
          → b ≡ same_text (text_at text p.offset p.len) (name_of tree text s c k)
      name-same q b w = w ∙ ap (λ (n : ℕ). same_text (text_at text (p.offset + c.len) n) (suffix_text tree text s c.first k)) (sym left-bytes) ∙ sym (name_pieces tree text s c k p.offset p.len h size room ∙ rw (sym e ∙ q) refl)

-- ---- by the verb, and by the whole name

module _ (tree text : List ℕ) (t : Text) where
  -- what was found by a key, where it has to be mangled
  pub name-found : (r : StdOption ℕ) (f : Function) → get_function t (all_keys tree text) ≡ some f
      → FunctionIs tree text r (filter_option is_mangled (some f))
      → FunctionIs tree text r (mangled_function (program tree text) (all_keys tree text) t)
  unfolding mangled_function
  name-found r f e h = record { is = h.is ∙ ap (filter_option is_mangled) (sym e); function = h.function }

  pub name_nowhere : get_function t (all_keys tree text) ≡ none
      → FunctionIs tree text None (mangled_function (program tree text) (all_keys tree text) t)
  unfolding mangled_function filter_option function_found
  name_nowhere e = record { is = ap (filter_option is_mangled) (sym e); function = none_found }

-- what the slot of the verb's number says
module _ (tree text s : List ℕ) (c : Call) (h : Called tree text s c) where
  pub verb-below : c.verb < records tree
  verb-below = rw h.numbered.number (original-below tree text h.numbered.of h.numbered.below h.numbered.has_its_text)

  pub verb-slot-inside : text_digest_at (records tree) c.verb + 4 ≤ length s
  verb-slot-inside = omega (arith, verb-below, h.argued.room)

  pub verb-digest : Numbered tree text s → (d : ℕ) → d ≡ word_at s (text_digest_at (records tree) c.verb) → (d ≡ roll_of (verb_of tree text s c)) × (d < 4294967291)
  verb-digest numbered d e =
      let q = h.numbered in
      let z : d ≡ roll_of (verb_of tree text s c) =
      e ∙ ap (λ (o : ℕ). word_at s (text_digest_at (records tree) o)) q.number ∙ original-digest tree text s numbered q.of q.below q.has_its_text ∙ ap roll_of q.text_is in
      (z, rw z (roll_small 1 (verb_of tree text s c) (omega arith)))

  pub verb-found : Keyed tree text s → (v : StdOption ℕ) → FindsKey tree text s c.verb v → FunctionIs tree text v (get_function (verb_of tree text s c) (all_keys tree text))
  verb-found K v finds =
      let q = h.numbered in
      rw q.text_is at (finds (all_keys tree text) K.slots q.of q.below q.has_its_text q.number)

  -- without arguments the whole name is the verb
  module _ (bare : c.count ≡ 0) (K : Keyed tree text s) (v : StdOption ℕ) (finds : FindsKey tree text s c.verb v) where
    whole_is : get_function (name_of tree text s c c.count) (all_keys tree text) ≡ function_found tree text v
    unfolding name_of joined
    whole_is = rw bare (sym (verb-found K v finds).is)

    pub verb_alone : (f : ℕ) → v ≡ Some f → (r : StdOption ℕ) → FunctionIs tree text r (filter_option is_mangled (some (function_of tree text f)))
        → FunctionIs tree text r (mangled_function (program tree text) (all_keys tree text) (name_of tree text s c c.count))
    unfolding function_found
    verb_alone f e r h =
        name-found tree text (name_of tree text s c c.count) r (function_of tree text f) (whole_is ∙ ap (function_found tree text) e) h

    pub verb_missing : v ≡ None → FunctionIs tree text None (mangled_function (program tree text) (all_keys tree text) (name_of tree text s c c.count))
    unfolding function_found
    verb_missing e = name_nowhere tree text (name_of tree text s c c.count) (whole_is ∙ ap (function_found tree text) e)

-- a function's key, as the code compares it with the text that is looked for
module _ (tree text : List ℕ) (t : Text) (f : ℕ) (p : Part) (is : PartIs text p (function_key (function_of tree text f))) where
  key_size : length (function_key (function_of tree text f)) ≡ p.len
  key_size = sym (ap length is.is) ∙ part_length text p.offset p.len is.inside

  pub key_told : (b c : Bool) → b ≡ same_text (text_at text p.offset p.len) t → b ≡ c → same_text t (function_key (function_of tree text f)) ≡ c
  key_told b c e q = same-turned t (function_key (function_of tree text f)) ∙ ap (λ (x : Text). same_text x t) (sym is.is) ∙ sym e ∙ q

  pub key_longer : (n : ℕ) → n ≡ length t → (p.len ≡ n → ⊥) → same_text t (function_key (function_of tree text f)) ≡ false
  key_longer n e d = sym (other-lengths t (function_key (function_of tree text f)) n p.len e (sym key_size) (λ q. d (sym q)))

-- ---- the three one after the other

or_else_assoc : (a b d : Option Function) → or_else (or_else a b) d ≡ or_else a (or_else b d)
unfolding or_else
or_else_assoc (some f) b d = refl
or_else_assoc none b d = refl

-- of two that are looked for, the second only where the first is missing
pub first_found : (tree text : List ℕ) (r q : StdOption ℕ) (a b : Option Function) → FunctionIs tree text r a
    → MatchOption r (FunctionIs tree text q b) (λ v. q ≡ Some v) → FunctionIs tree text q (or_else a b)
unfolding function_found or_else
first_found tree text (Some f) q a b m w = rw w (record { is = rw (sym m.is) refl; function = m.function })
first_found tree text None q a b m w = record { is = w.is ∙ rw (sym m.is) refl; function = w.function }

module _ (tree text s : List ℕ) (c : Call) (h : Called tree text s c) where
  whole : by_full_name tree text s c
      ≡ mangled_function (program tree text) (all_keys tree text) (joined (program tree text) (all_keys tree text) (verb_of tree text s c) (suffixes (program tree text) (all_keys tree text) (typed_at tree text s c.first)))
  unfolding name_of suffixes_at
  whole = ap (λ (l : List Text). mangled_function (program tree text) (all_keys tree text) (joined (program tree text) (all_keys tree text) (verb_of tree text s c) l)) (all-taken tree text s c h)

  in_turn : or_else (by_name tree text s c) (or_else (by_full_name tree text s c) (by_prefix tree text s c)) ≡ exactly tree text s c
  unfolding find_exact_function suffixes_at
  in_turn = ap (λ (z : Option Function). or_else (by_name tree text s c) (or_else z (by_prefix tree text s c))) whole

  pub exactly_is : (q : StdOption ℕ) → FunctionIs tree text q (or_else (or_else (by_name tree text s c) (by_full_name tree text s c)) (by_prefix tree text s c))
      → FunctionIs tree text q (exactly tree text s c)
  exactly_is q m = record {
    is = m.is ∙ or_else_assoc (by_name tree text s c) (by_full_name tree text s c) (by_prefix tree text s c) ∙ in_turn;
    function = m.function;
  }
