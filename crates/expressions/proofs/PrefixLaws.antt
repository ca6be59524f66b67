-- The longest prefix with `$...`: a key compared with one, and each prefix looked for from the shortest on. What was asked is what is left, or else the best so far.
-- By the definition's own steps, one suffix at a time. Assumes nothing.
use Rattle.std.specs.Prelude.{Option as StdOption, Some, None}
use Rattle.std.specs.Option.{option_or}
use mathlib.Core.Path.{◌≡◌, refl, sym, ap, ap₂, ◌∙◌}
use mathlib.Core.Bool.{Bool, true, false, not, ◌&&◌, false≢true}
use mathlib.Core.List.{List, [], ◌∷◌, ◌++◌}
use mathlib.Core.Option.{Option, none, some}
use Prim.Native.Nat.{ℕ, zero, suc, ◌+◌, ◌-◌, ◌*◌, ◌≤◌, ◌<◌}
use native.Mathlib.Numerals.{add-one}
use native.Mathlib.Omega.{arith}
use lib.ListN.{length, take, drop, length-append}
use Rattle.laws.specs.Below.{or_else}
use Rattle.records.specs.Digest.{roll_step, roll_from, roll_of}
use Rattle.records.specs.Words as Words
use Rattle.records.specs.Words.{text_at, word_of, most_records, B}
use Rattle.records.specs.declared.shape.Role.TheVariants.{Arguments}
use Rattle.records.proofs.RollLaws.{roll_append, text_split}
use Rattle.records.proofs.TextLaws.{other-lengths}
use Rattle.syntax.specs.Syntax.{Text, Function, Program}
use Rattle.syntax.specs.Decode.{program, key_at}
use Rattle.conversion.specs.Ir.{same_text}
use Rattle.conversion.specs.Expressions.{Functions, dollar, variadic_mark, joined, variadic_function}
use Rattle.keys.specs.declared.parts.Part.{Part}
use Rattle.keys.specs.Parts.{PartIs}
use Rattle.keys.specs.Keys.{all_keys, function_found, FunctionFound, FunctionIs, none_found}
use Rattle.syntax.proofs.Lists.{left, left-most}
use Rattle.expressions.specs.declared.arguments.Call.{Call}
use Rattle.expressions.specs.Calls.{suffixes_at, verb_of, name_of, Argued, Called, by_marked}
use Rattle.expressions.proofs.NameLaws.{same-append, part_length, count-suffixes}
use Rattle.expressions.proofs.SuffixLaws.{First, Next, next-is, no-suffixes, key_size}

-- ---- a key against a prefix with `$...`

module _ (tree text s : List ℕ) (c : Call) (k : ℕ) (p : Part) (room : p.offset + p.len ≤ length text) (size : ℕ) (es : size ≡ length (name_of tree text s c k)) where
  abbrev name : Text
  name = name_of tree text s c k

  abbrev Asked : Bool
  Asked = same_text (text_at text p.offset p.len) (name ++ variadic_mark)

  marked-long : size + 4 ≡ length (name ++ variadic_mark)
  marked-long = sym (length-append name variadic_mark ∙ ap (λ (n : ℕ). n + 4) (sym es))

  pub marked-short : p.len < 4 → false ≡ Asked
  marked-short h =
      other-lengths (text_at text p.offset p.len) (name ++ variadic_mark) p.len (size + 4) (sym (part_length text p.offset p.len room)) marked-long (λ e. omega arith)

  module _ (h : 4 ≤ p.len) where
    pub marked_longer : (p.len - 4 ≡ size → ⊥) → false ≡ Asked
    marked_longer n =
        other-lengths (text_at text p.offset p.len) (name ++ variadic_mark) p.len (size + 4) (sym (part_length text p.offset p.len room)) marked-long (λ e. n (omega arith))

    module _ (q : p.len - 4 ≡ size) where
      pieces : Asked ≡ (same_text (text_at text p.offset size) name && same_text (text_at text (p.offset + size) 4) variadic_mark)
      pieces =
          let z : p.len ≡ size + 4 = omega arith in
          ap (λ (t : Text). same_text t (name ++ variadic_mark)) (ap (text_at text p.offset) z ∙ text_split text p.offset size 4)
          ∙ same-append (text_at text p.offset size) name (text_at text (p.offset + size) 4) variadic_mark
          (part_length text p.offset size (omega arith) ∙ es)

      and_no : (a : Bool) → (a && false) ≡ false
      and_no true = refl
      and_no false = refl

      turned : (a b : Bool) → not a ≡ not b → a ≡ b
      turned true true e = refl
      turned true false e = absurd (false≢true e)
      turned false true e = absurd (false≢true (sym e))
      turned false false e = refl

      and_yes : (a : Bool) → (a && true) ≡ a
      and_yes true = refl
      and_yes false = refl

      module _ (b : Bool) (eb : b ≡ same_text (text_at text (p.offset + size) 4) variadic_mark) where
        pub marked_other : not b ≡ true → false ≡ Asked
        marked_other f = sym (pieces ∙ ap (λ (x : Bool). same_text (text_at text p.offset size) name && x) (sym eb ∙ turned b false f) ∙ and_no (same_text (text_at text p.offset size) name))

        pub marked-name : not b ≡ false → (r : Bool) → r ≡ same_text (text_at text p.offset size) name → r ≡ Asked
        marked-name t r er = er ∙ sym (pieces ∙ ap (λ (x : Bool). same_text (text_at text p.offset size) name && x) (sym eb ∙ turned b true t) ∙ and_yes (same_text (text_at text p.offset size) name))

-- the digest with `$...` behind
pub marked-rolled : (d a b c e : ℕ) → a ≡ roll_step d 36 → b ≡ roll_step a 46 → c ≡ roll_step b 46 → e ≡ roll_step c 46 → e ≡ roll_from d variadic_mark
unfolding roll_from
marked-rolled d a b c e ea eb ec ee = rw (ee, ec, eb, ea) refl

-- ---- the best so far

or-none : {X : Type 0} (o : Option X) → or_else o none ≡ o
unfolding or_else
or-none none = refl
or-none (some x) = refl

or-or : {X : Type 0} (a b c : Option X) → or_else (or_else a b) c ≡ or_else a (or_else b c)
unfolding or_else
or-or none b c = refl
or-or (some x) b c = refl

module _ (tree text : List ℕ) where
  later_is : (first then : StdOption ℕ) → function_found tree text (option_or then first) ≡ or_else (function_found tree text then) (function_found tree text first)
  unfolding function_found or_else
  later_is first (Some f) = refl
  later_is first None = refl

  later_function : (first then : StdOption ℕ) → FunctionFound tree first → FunctionFound tree then → FunctionFound tree (option_or then first)
  later_function first (Some f) a b = b
  later_function first None a b = a

-- one suffix more
module _ (P : Program) (F : Functions) where
  joined-more : (v : Text) (l : List Text) (k : ℕ) (x : Text) (r : List Text) → drop k l ≡ x ∷ r → joined P F v (take (suc k) l) ≡ joined P F v (take k l) ++ x
  unfolding joined
  joined-more v [] zero x r e = absurd (let z : ◌≡◌ {A = ℕ} 0 1 = cc in omega arith)
  joined-more v [] (suc k) x r e = absurd (let z : ◌≡◌ {A = ℕ} 0 1 = cc in omega arith)
  joined-more v (a ∷ l) zero x r e = let q : a ≡ x = cc in ap (λ (t : Text). v ++ t) q
  joined-more v (a ∷ l) (suc k) x r e = joined-more (v ++ a) l k x r e

-- k suffixes were passed, up to cell w; d and `size` are digest and length of the verb with them
pub record Prefixed (tree text s : List ℕ) (c : Call) (best : StdOption ℕ) (d size w k : ℕ) : Type 0 where
  pub argued : Argued tree text s w
  pub here : drop k (suffixes_at tree text s c.first) ≡ suffixes_at tree text s w
  pub number : k ≤ c.count
  pub small : d < 4294967291
  pub digest : d ≡ roll_of (name_of tree text s c k)
  pub sized : size ≡ length (name_of tree text s c k)
  pub short : size + 4294967296 * left w ≤ 4294967296 * (most_records + 1)
  pub few : k ≤ size
  pub function : FunctionFound tree best
  pub asked : variadic_function (program tree text) (all_keys tree text) (verb_of tree text s c) (suffixes_at tree text s c.first)
      ≡ or_else (variadic_function (program tree text) (all_keys tree text) (name_of tree text s c k) (suffixes_at tree text s w)) (function_found tree text best)

module _ (tree text s : List ℕ) (c : Call) (h : Called tree text s c) where
  pub prefix_start : (d : ℕ) → (d ≡ roll_from 1 (verb_of tree text s c)) × (d < 4294967291) → Prefixed tree text s c None d c.len c.first 0
  unfolding name_of joined function_found
  prefix_start d e = record {
    argued = h.argued;
    here = refl;
    number = omega arith;
    small = e.1;
    digest = e.0;
    sized = sym (part_length text c.offset c.len h.inside);
    short = omega (arith, h.short, left-most tree text h.argued.good Arguments c.first h.argued.cells, h.argued.good.few);
    few = omega arith;
    function = none_found;
    asked = sym (or-none (variadic_function (program tree text) (all_keys tree text) (verb_of tree text s c) (suffixes_at tree text s c.first)));
  }

  module _ (best : StdOption ℕ) (d size w k : ℕ) (x : Prefixed tree text s c best d size w k) where
    pub prefix_marked : (m : ℕ) → m ≡ roll_from d variadic_mark → m ≡ roll_of (name_of tree text s c k ++ variadic_mark)
    prefix_marked m e = e ∙ ap (λ (z : ℕ). roll_from z variadic_mark) x.digest ∙ sym (roll_append 1 (name_of tree text s c k) variadic_mark)

    module _ (found : StdOption ℕ) (is : FunctionIs tree text found (by_marked tree text s c k)) where
      -- at the last cell
      pub prefix_end : w ≡ Words.none
          → FunctionIs tree text (option_or found best) (variadic_function (program tree text) (all_keys tree text) (verb_of tree text s c) (suffixes_at tree text s c.first))
      unfolding variadic_function
      prefix_end e = record {
        is =
            later_is tree text best found
            ∙ ap (λ (o : Option Function). or_else o (function_found tree text best)) is.is
            ∙ sym (x.asked
            ∙ ap (λ (l : List Text). or_else (variadic_function (program tree text) (all_keys tree text) (name_of tree text s c k) l) (function_found tree text best))
            (no-suffixes tree text s w x.argued.good e));
        function = later_function tree text best found x.function is.function;
      }

      module _ (y : ℕ) (p : Part) (f : First tree text s w y) (part : PartIs text p (key_at tree text y)) (brief : p.len < 4294967296) where
        next : Next tree text s (suffixes_at tree text s c.first) k (dollar ∷ key_at tree text y) (suffixes_at tree text s (word_of tree w B))
        next = next-is tree text s (suffixes_at tree text s c.first) k (dollar ∷ key_at tree text y) (suffixes_at tree text s (word_of tree w B)) (x.here ∙ f.is)

        name-more : name_of tree text s c (k + 1) ≡ name_of tree text s c k ++ (dollar ∷ key_at tree text y)
        unfolding name_of
        name-more =
            ap (λ (n : ℕ). joined (program tree text) (all_keys tree text) (verb_of tree text s c) (take n (suffixes_at tree text s c.first))) (add-one k)
            ∙ joined-more (program tree text) (all_keys tree text) (verb_of tree text s c) (suffixes_at tree text s c.first) k (dollar ∷ key_at tree text y)
            (suffixes_at tree text s (word_of tree w B)) (x.here ∙ f.is)

        pub prefix_more : (z r : ℕ) → z ≡ roll_step d 36 → (r ≡ roll_from z (text_at text p.offset p.len)) × (r < 4294967291)
            → Prefixed tree text s c (option_or found best) r (size + 1 + p.len) (word_of tree w B) (k + 1)
        unfolding roll_from variadic_function
        prefix_more z r ez er = record {
          argued = f.rest;
          here = ap (λ (n : ℕ). drop n (suffixes_at tree text s c.first)) (add-one k) ∙ next.after;
          number = omega (arith, next.inside, h.counted, count-suffixes tree text s c.first);
          small = er.1;
          digest =
              er.0
              ∙ ap₂ roll_from (ez ∙ ap (λ (v : ℕ). roll_step v 36) x.digest) part.is
              ∙ sym (ap roll_of name-more ∙ roll_append 1 (name_of tree text s c k) (dollar ∷ key_at tree text y));
          sized =
              sym
              (ap length name-more
              ∙ length-append (name_of tree text s c k) (dollar ∷ key_at tree text y)
              ∙ omega (arith, x.sized, key_size tree text y p part));
          short = omega (arith, x.short, f.falls);
          few = omega (arith, x.few);
          function = later_function tree text best found x.function is.function;
          asked =
              x.asked
              ∙ ap (λ (l : List Text). or_else (variadic_function (program tree text) (all_keys tree text) (name_of tree text s c k) l) (function_found tree text best)) f.is
              ∙ or-or
              (variadic_function (program tree text) (all_keys tree text) (name_of tree text s c k ++ (dollar ∷ key_at tree text y)) (suffixes_at tree text s (word_of tree w B)))
              (by_marked tree text s c k) (function_found tree text best)
              ∙ ap₂
              (λ (t : Text) (o : Option Function).
              or_else (variadic_function (program tree text) (all_keys tree text) t (suffixes_at tree text s (word_of tree w B))) (or_else o (function_found tree text best)))
              (sym name-more) (sym is.is)
              ∙ ap (or_else (variadic_function (program tree text) (all_keys tree text) (name_of tree text s c (k + 1)) (suffixes_at tree text s (word_of tree w B))))
              (sym (later_is tree text best found));
        }
