-- What taking a word, the five words of a record, and the whole record says and leaves.
-- A word by the badge that it refers to; the words one after the other; a record by its words and its own tests. Assumes nothing.
use mathlib.Core.Path.{◌≡◌, refl, sym, ap, ◌∙◌}
use Prim.Native.Nat.{ℕ, ◌+◌, ◌*◌, ◌≤◌, ◌<◌}
use mathlib.Core.Bool.{Bool, true, false, not, ◌&&◌, ◌||◌}
use mathlib.Core.List.{List}
use native.Mathlib.Omega.{arith}
use lib.Dec.{eqb, leb, ltb}
use lib.ListN.{length}
use borrow.Author.Tests.{eq-eqb, ne_eqb, eqb-true, ltb-true, ltb-false}
use Rattle.laws.specs.Fix.{pick}
use Rattle.laws.specs.Below.{all_below}
use Rattle.laws.proofs.AllBelow.{all_of, all-stop}
use Rattle.records.specs.declared.shape.Role.{Role}
use Rattle.records.specs.declared.shape.Role.TheVariants.{Unused}
use Rattle.records.specs.declared.shape.Row.{Row}
use Rattle.records.specs.Words.{kind_of, detail_of, pad_of, none, most_records}
use Rattle.records.specs.Shapes.{refers, row_at}
use Rattle.records.specs.Rules.{word_ok, words_ok, form_ok, otherwise_marked, body_marked, is_first_type, types_first, refers_to}
use Rattle.records.specs.Depth.{larger}
use Rattle.judge.specs.declared.pass.Words.{Words}
use Rattle.judge.specs.Inner.{TypesLead, capped, shallow_depth, class_in, depth_in, kind_in, stored, list_number, class_at, low_badge, high_badge, none_ok, KnownBelow, Counting, Counted, Took, WordsOf, TookWords, other_rules, TookRecord}
use Rattle.judge.proofs.CapLaws.{larger-none}
use Rattle.judge.proofs.DepthLaws.{below_none, below-told, below_later, deepest-words, depth-told}
use Rattle.judge.proofs.BadgeLaws.{reference-out, reference_in}
use Rattle.judge.proofs.ListClass.{cell-told, class_small, class_other}
use Rattle.judge.proofs.CountLaws.{refers-not, counted_none, word_out, counted_words, known-counted, stored-length, known-stored, counting-stored}

-- ---- one word

module _ (tree : List ℕ) (bytes r : ℕ) (role : Role) (w next : ℕ) (l : List ℕ) where
  pub took_plain : refers role ≡ false → (ok : Bool) → ok ≡ word_ok tree bytes r role w next → Took tree bytes r role w next l l ok 0
  took_plain e ok q =
      record {
        right = q;
        depth = below_none (shallow_depth tree) r role w e;
        counted = counted_none tree r (refers_to role w) l (λ k hk. refers-not role w k e);
      }

  module _ (e : refers role ≡ true) (i : ℕ) (same : i ≡ w) where
    pub took-out : r ≤ i → (allowed : Bool) → allowed ≡ none_ok role → Took tree bytes r role w next l l (eqb w none && allowed) 0
    took-out h allowed q =
        record {
          right = rw q (sym (reference-out tree bytes r role w next e (omega arith)));
          depth = below_later (shallow_depth tree) r role w i same e h;
          counted = word_out tree role w r i l same h;
        }

    pub took_in : KnownBelow tree r l → r < most_records → i < r → (k c low high : ℕ) → (k ≡ kind_in l i) × (k < 256) → c ≡ class_in l i → low ≡ low_badge role → high ≡ high_badge role
        → (l' : List ℕ) → Counted tree r (refers_to role w) l l'
        → Took tree bytes r role w next l l' (leb low (k * 4 + c) && leb (k * 4 + c) high) (depth_in l i)
    took_in known few h k c low high kIs cIs lIs hIs l' n =
        record {
          right = rw (lIs, hIs) (sym (reference_in tree bytes r w next k c l known few (omega arith) (rw same at kIs.0) (rw same at cIs) kIs.1 role e));
          depth = known.depths i h ∙ below-told (shallow_depth tree) r role w i same e h;
          counted = n;
        }

-- what the next word needs
pub took-next : (tree : List ℕ) (bytes r : ℕ) (role : Role) (w next : ℕ) (l l' : List ℕ) (ok : Bool) (d : ℕ) → (r < most_records) × (r * 4 + 4 ≤ length l) × KnownBelow tree r l
    → Took tree bytes r role w next l l' ok d → (r < most_records) × (r * 4 + 4 ≤ length l') × KnownBelow tree r l'
took-next tree bytes r role w next l l' ok d ready t = (ready.0, rw t.counted.same ready.1, known-counted tree r _ l l' ready.2 t.counted)

-- ---- five words

pub unused_took : (tree : List ℕ) (bytes r : ℕ) (role : Role) (w next : ℕ) (l : List ℕ) → role ≡ Unused → Took tree bytes r role w next l l (eqb w 0) 0
unfolding word_ok
unused_took tree bytes r role w next l e = rw e (took_plain tree bytes r Unused w next l refl (eqb w 0) refl)

module _ (tree : List ℕ) (bytes r : ℕ) (row : Row) (words : Words) (row_is : row ≡ row_at tree r) (of : WordsOf tree r words) (l la lb : List ℕ) (a b : Bool) (da db : ℕ)
    (ta : Took tree bytes r row.a words.a words.b l la a da) (tb : Took tree bytes r row.b words.b words.c la lb b db) where
  module _ (lc ld le : List ℕ) (c d e : Bool) (dc dd de : ℕ) (tc : Took tree bytes r row.c words.c words.d lb lc c dc)
      (td : Took tree bytes r row.d words.d words.e lc ld d dd) (te : Took tree bytes r row.e words.e 0 ld le e de) where
    pub took-words : (m m₂ m₃ m₄ : ℕ) → m ≡ larger dd de → m₂ ≡ larger dc m → m₃ ≡ larger db m₂ → m₄ ≡ larger da m₃
        → TookWords tree bytes r l le (a && b && c && d && e) m₄
    unfolding words_ok
    took-words m m₂ m₃ m₄ e₁ e₂ e₃ e₄ =
        record {
          right = rw (ta.right, tb.right, tc.right, td.right, te.right, of.a, of.b, of.c, of.d, of.e, row_is) refl;
          depth = deepest-words tree (shallow_depth tree) r row words.a words.b words.c words.d words.e da db dc dd de m m₂ m₃ m₄ row_is of.a of.b of.c of.d of.e ta.depth tb.depth tc.depth td.depth te.depth e₁ e₂ e₃ e₄;
          counted = counted_words tree r row words.a words.b words.c words.d words.e l la lb lc ld le row_is of.a of.b of.c of.d of.e ta.counted tb.counted tc.counted td.counted te.counted;
        }

  pub took_two : (row.c ≡ Unused) × (row.d ≡ Unused) × (row.e ≡ Unused) → (m : ℕ) → m ≡ larger da db
      → TookWords tree bytes r l lb (a && b && eqb words.c 0 && eqb words.d 0 && eqb words.e 0) m
  took_two unused m e =
      took-words lb lb lb _ _ _ 0 0 0
      (unused_took tree bytes r row.c words.c words.d lb unused.0)
      (unused_took tree bytes r row.d words.d words.e lb unused.1)
      (unused_took tree bytes r row.e words.e 0 lb unused.2)
      0 0 db m (sym (larger-none 0)) (sym (larger-none 0)) (sym (larger-none db)) e

-- ---- a record

-- types lead where the record stands before the first other kind
module _ (tree : List ℕ) (n types r : ℕ) (lead : TypesLead tree n types) (h : r < n) where
  is_type : ℕ → Bool
  is_type j = eqb (kind_of tree j) 1

  leads : (t b : Bool) → t ≡ is_type r → b ≡ ltb r types → (not t || b) ≡ (not t || all_below r is_type)
  unfolding is_type
  leads false b e q = refl
  leads true true e q =
      sym (all_of is_type r (λ i k. let l : r < types = ltb-true r types (sym q) in eq-eqb (kind_of tree i) 1 (lead.types i (omega arith))))
  leads true false e q =
      let l : types ≤ r = ltb-false r types (sym q) in
      let d : types ≡ r → ⊥ = λ s. lead.other (omega arith) (ap (kind_of tree) s ∙ eqb-true (kind_of tree r) 1 (sym e)) in
      sym (all-stop is_type r types (omega arith) (ne_eqb (kind_of tree types) 1 (lead.other (omega arith))))

  types-lead : (not (eqb (kind_of tree r) 1) || ltb r types) ≡ types_first tree r
  unfolding types_first is_type
  types-lead = leads _ _ refl refl

  group : (a b c : Bool) → (a && (b && c)) ≡ (a && b && c)
  group true b c = refl
  group false b c = refl

  module _ (bytes k found pad : ℕ) (row : Row) (words : Words) (kIs : k ≡ kind_of tree r) (foundIs : found ≡ detail_of tree r) (row_is : row ≡ row_at tree r) (of : WordsOf tree r words) (padIs : pad ≡ pad_of tree r) where
    pub rules-told : (ok marks first : Bool) → ok ≡ words_ok tree bytes r (row_at tree r)
        → marks ≡ ((not (eqb k 19) || eqb found 1 || eqb words.c none) && (not (eqb k 25) || leb 4 found || eqb words.e none))
        → first ≡ is_first_type tree r
        → ((eqb pad 0 && ltb found row.limit && ok) && marks && first && (not (eqb k 1) || ltb r types)) ≡ other_rules tree bytes r
    unfolding other_rules form_ok otherwise_marked body_marked
    rules-told ok marks first o m f =
        rw (m, kIs, foundIs, row_is, of.c, of.e, padIs, o, f, types-lead, group (form_ok tree bytes r) (otherwise_marked tree r) (body_marked tree r)) refl

    -- the bytes of record r, over what its words left
    pub bytes-told : (l₀ l₁ m : List ℕ) (ok : Bool) (deep class d : ℕ) → KnownBelow tree r l₀ → Counting tree r l₀ → TookWords tree bytes r l₀ l₁ ok deep
        → class ≡ class_at tree (class_in l₁) r k words.a words.b
        → d ≡ pick (eqb k 12) deep (capped 65 (deep + 1))
        → r * 4 + 8 ≤ length l₀ → m ≡ stored l₁ r class d k
        → (right : Bool) → right ≡ other_rules tree bytes r
        → TookRecord tree bytes r l₀ m right d
    bytes-told l₀ l₁ m ok deep class d known counting took classIs dIs room mIs right right_is =
        let room₁ : r * 4 + 8 ≤ length l₁ = rw took.counted.same room in
        let known₁ = known-counted tree r _ l₀ l₁ known took.counted in
        let deepIs = depth-told tree r deep k d took.depth kIs dIs in
        rw mIs
        (record {
          right = right_is;
          depth = deepIs;
          same = stored-length l₁ r class d k room₁ ∙ took.counted.same;
          known = known-stored l₁ r class d k room₁ tree known₁ (λ role. cell-told tree r l₁ known₁ role words.a words.b of.a of.b k kIs ∙ ap (λ (x : ℕ). eqb x (list_number role)) (sym classIs)) (rw classIs (class_small tree (class_in l₁) r k words.a words.b)) (λ n. classIs ∙ class_other tree (class_in l₁) r k words.a words.b kIs n) deepIs kIs;
          counting = counting-stored l₁ r class d k room₁ tree l₀ counting took.counted;
        })
