-- A record that the table takes is right, as deep as it says, and counted: what its slots and its form say of it.
-- Each word is taken by its slot, D and E are unused; the rest is what holds of every record taken. Assumes nothing.
use mathlib.Core.Path.{◌≡◌, refl, sym, ap, ◌∙◌}
use Prim.Native.Nat.{ℕ, zero, suc, ◌+◌, ◌*◌, ◌/◌, ◌%◌, ◌≤◌, ◌<◌}
use mathlib.Core.Bool.{Bool, true, false, not, ◌&&◌, ◌||◌, false≢true}
use mathlib.Core.List.{List}
use native.Mathlib.Omega.{arith}
use lib.Dec.{eqb, leb, ltb}
use lib.ListN.{length, get_or, set, length-set}
use borrow.Author.Tests.{eq-eqb, ne_eqb, le-leb, leb-true, lt-ltb, not-false}
use Rattle.laws.specs.Fix.{pick}
use Rattle.laws.proofs.Tests.{and_left, and_right}
use Rattle.records.specs.declared.shape.Role.{Role}
use Rattle.records.specs.declared.shape.Role.TheVariants.{Item}
use Rattle.records.specs.Words.{most_records, detail_of, pad_of, none, bool_number}
use Rattle.records.specs.Shapes.{row_of, row_at}
use Rattle.records.specs.Rules.{words_ok, is_first_type}
use Rattle.records.specs.Depth.{larger}
use Rattle.judge.specs.declared.pass.Words.{Words}
use Rattle.judge.specs.Inner.{TypesLead, capped, class_in, stored, class_at, KnownBelow, Counting, WordsOf, Took, TookWords, other_rules, TookRecord, is_unused}
use Rattle.judge.specs.Plain.{is_text, Place, Cells, Owned, PlainForm, PlainReady, WordSlots, TookSlots, TookPlain}
use Rattle.judge.proofs.CapLaws.{larger-none}
use Rattle.judge.proofs.RoleCases.{unused_role}
use Rattle.judge.proofs.CountLaws.{known-counted, stored-length}
use Rattle.judge.proofs.TakeLaws.{unused_took, took-words, rules-told, bytes-told}
use Rattle.judge.proofs.PlainLaws.{RuleFacts, RowFacts, row_facts, plain_row, placed, counted-slot, slot_depth_lem, slot-right, known_owned, counting-owned}

-- the badge of the record in slot p is one that the rule at `at` allows
abbrev badge_allowed : List ℕ → ℕ → List ℕ → ℕ → Bool
badge_allowed rules at l p =
    leb (get_or rules (at + 2) 0) (get_or l (p * 4 + 3) 0 * 4 + get_or l (p * 4 + 2) 0)
    && leb (get_or l (p * 4 + 3) 0 * 4 + get_or l (p * 4 + 2) 0) (get_or rules (at + 3) 0)

-- one more reference to the record in slot p
abbrev counted : List ℕ → ℕ → List ℕ
counted l p = set l (p * 4 + 1) ((get_or l (p * 4 + 1) 0 + 3) / 2)

counted-length : (l l' : List ℕ) (p : ℕ) → l' ≡ counted l p → length l' ≡ length l
counted-length l l' p e = ap length e ∙ length-set l (p * 4 + 1) ((get_or l (p * 4 + 1) 0 + 3) / 2)

-- such a record is not deep
pub shallow : (badges : Bool) (below : ℕ) → not (badges && leb below 63) ≡ false → below ≤ 65
shallow badges below e = omega (arith, leb-true below 63 (and_right badges (leb below 63) (not-false (badges && leb below 63) e)))

slot-took : (tree : List ℕ) (bytes r : ℕ) (rules : List ℕ) (at : ℕ) (role : Role) (w next p : ℕ) → RuleFacts rules at role → Place r role w p → r < most_records
    → (l : List ℕ) → KnownBelow tree r l → get_or l 0 0 ≡ 0 → (m m' : List ℕ) → p * 4 + 4 ≤ length m → m' ≡ counted m p
    → badge_allowed rules at l p ≡ true → w * get_or rules (at + 4) 0 ≡ 0 → (is_text role ≡ true → w + next ≤ bytes)
    → Took tree bytes r role w next m m' true (get_or l (p * 4) 0)
slot-took tree bytes r rules at role w next p facts place few l known free m m' room e badge free₂ text =
    record {
      right = slot-right rules at role facts r w p place l tree few known bytes next badge free₂ text;
      depth = slot_depth_lem rules at role facts r w p place l tree few known free;
      counted = rw e (counted-slot rules at role facts r w p place m tree few room);
    }

module _ (tree : List ℕ) (r k : ℕ) (words : Words) (pa pb pc : ℕ) (rules l l₀ : List ℕ) (s : WordSlots tree r k words pa pb pc l rules) (own : Owned l l₀) where
  facts : RowFacts rules k
  facts = rw s.ready.table (row_facts k s.ready.small)

  pub known-own : KnownBelow tree r l₀
  known-own = known_owned tree r l l₀ own s.ready.known

  counting-own : Counting tree r l₀
  counting-own = counting-owned tree r l l₀ own s.ready.counting

  -- what it refers to is not right
  pub slots-left : TookSlots tree r k words rules l l₀ false 0
  slots-left = record { took = λ e. absurd (false≢true e); left = λ e. (known-own, counting-own); same = own.same }

  -- a cell refers to its item
  cell-item : k ≡ 12 → Place r Item words.a pa
  unfolding row_of
  cell-item e = rw e at s.a

  pub item-lower : k ≡ 12 → (words.a < r) × (pa ≡ words.a + 1)
  item-lower e = go pa refl
    where
      go : (x : ℕ) → pa ≡ x → (words.a < r) × (pa ≡ words.a + 1)
      go zero q = absurd (false≢true ((cell-item e).own q refl).1)
      go (suc x) q = let y : x ≡ words.a = ((cell-item e).lower x (omega arith)).1 in (omega (arith, (cell-item e).within), omega arith)

  -- the third may be counted
  pub third_room : (l₁ l₂ : List ℕ) → l₁ ≡ counted l₀ pa → l₂ ≡ counted l₁ pb → (pc ≤ most_records) × (pc * 4 + 4 ≤ length l₂)
  third_room l₁ l₂ one two =
      (omega (arith, s.c.within, s.ready.few), omega (arith, s.c.within, s.ready.room, own.same, counted-length l₀ l₁ pa one, counted-length l₁ l₂ pb two))

  module _ (l₁ l₂ l₃ : List ℕ) (one : l₁ ≡ counted l₀ pa) (two : l₂ ≡ counted l₁ pb) (three : l₃ ≡ counted l₂ pc) where
    pub slots-room : r * 4 + 8 ≤ length l₃
    slots-room =
        omega (arith, s.ready.room, own.same, counted-length l₀ l₁ pa one, counted-length l₁ l₂ pb two, counted-length l₂ l₃ pc three)

    known_three : KnownBelow tree r l₃
    known_three =
        let f = facts in
        let room₀ : pa * 4 + 4 ≤ length l₀ = omega (arith, s.a.within, s.ready.room, own.same) in
        let room₁ : pb * 4 + 4 ≤ length l₁ = omega (arith, s.b.within, s.ready.room, own.same, counted-length l₀ l₁ pa one) in
        let room₂ : pc * 4 + 4 ≤ length l₂ = omega (arith, s.c.within, s.ready.room, own.same, counted-length l₀ l₁ pa one, counted-length l₁ l₂ pb two) in
        let k₁ : KnownBelow tree r l₁ = rw one (known-counted tree r _ l₀ (counted l₀ pa) known-own (counted-slot rules (k * 20) (row_of k).a f.a r words.a pa s.a l₀ tree s.ready.few room₀)) in
        let k₂ : KnownBelow tree r l₂ = rw two (known-counted tree r _ l₁ (counted l₁ pb) k₁ (counted-slot rules (k * 20 + 5) (row_of k).b f.b r words.b pb s.b l₁ tree s.ready.few room₁)) in
        rw three (known-counted tree r _ l₂ (counted l₂ pc) k₂ (counted-slot rules (k * 20 + 10) (row_of k).c f.c r words.c pc s.c l₂ tree s.ready.few room₂))

    pub slots-cells : Cells tree k words.a pa pb l₃ rules
    slots-cells =
        record {
          item = λ e. omega (arith, (item-lower e).0, s.ready.whole);
          kind = λ e. let q : pa * 4 + 3 ≡ words.a * 4 + 7 = omega (arith, (item-lower e).1) in rw q (known_three.kinds words.a (item-lower e).0);
          few = (omega (arith, s.a.within, s.ready.few), omega (arith, s.b.within, s.ready.few));
          room = (omega (arith, s.a.within, slots-room), omega (arith, s.b.within, slots-room));
          table = s.ready.table;
        }

    pub slots_length : (m : List ℕ) (class d : ℕ) → m ≡ stored l₃ r class d k → length m ≡ length l
    slots_length m class d e =
        ap length e ∙ stored-length l₃ r class d k slots-room ∙ counted-length l₂ l₃ pc three ∙ counted-length l₁ l₂ pb two ∙ counted-length l₀ l₁ pa one ∙ own.same

  module _ (l₁ l₂ l₃ : List ℕ) (one : l₁ ≡ counted l₀ pa) (two : l₂ ≡ counted l₁ pb) (three : l₃ ≡ counted l₂ pc)
      (badgeA : badge_allowed rules (k * 20) l₀ pa ≡ true) (badgeB : badge_allowed rules (k * 20 + 5) l₀ pb ≡ true) (badgeC : badge_allowed rules (k * 20 + 10) l₀ pc ≡ true)
      (below last : ℕ) (lastIs : last ≡ larger (get_or l₀ (pb * 4) 0) (get_or l₀ (pc * 4) 0)) (belowIs : below ≡ larger (get_or l₀ (pa * 4) 0) last)
      (bytes : ℕ) (form : PlainForm tree bytes r k words rules) where
    limit : (get_or rules (k * 20 + 16) 0 ≡ (row_of k).limit) × (k ≡ 1 → ⊥) × (is_unused (row_of k).d ≡ true) × (is_unused (row_of k).e ≡ true)
    limit = facts.limited (λ e. omega (arith, form.limit))

    row_is : row_of k ≡ row_at tree r
    row_is = plain_row tree r k s.ready.kind s.ready.small limit.1

    took_a : Took tree bytes r (row_of k).a words.a words.b l₀ l₁ true (get_or l₀ (pa * 4) 0)
    unfolding bool_number
    took_a =
        slot-took tree bytes r rules (k * 20) (row_of k).a words.a words.b pa facts.a s.a s.ready.few l₀ known-own own.depth l₀ l₁
        (omega (arith, s.a.within, s.ready.room, own.same)) one badgeA form.zero_a
        (λ t.
        let q : get_or rules (k * 20 + 15) 0 ≡ 1 = rw t at facts.text_is_lem in
        let x : (words.a + words.b) * 1 ≤ bytes = rw q at form.text in
        omega arith)

    took_b : Took tree bytes r (row_of k).b words.b words.c l₁ l₂ true (get_or l₀ (pb * 4) 0)
    took_b =
        let q : k * 20 + 5 + 4 ≡ k * 20 + 9 = omega arith in
        slot-took tree bytes r rules (k * 20 + 5) (row_of k).b words.b words.c pb facts.b s.b s.ready.few l₀ known-own own.depth l₁ l₂
        (omega (arith, s.b.within, s.ready.room, own.same, took_a.counted.same)) two badgeB (rw q form.zero_b)
        (λ t. absurd (false≢true (sym facts.no_text_b ∙ t)))

    took_c : Took tree bytes r (row_of k).c words.c words.d l₂ l₃ true (get_or l₀ (pc * 4) 0)
    took_c =
        let q : k * 20 + 10 + 4 ≡ k * 20 + 14 = omega arith in
        slot-took tree bytes r rules (k * 20 + 10) (row_of k).c words.c words.d pc facts.c s.c s.ready.few l₀ known-own own.depth l₂ l₃
        (omega (arith, s.c.within, s.ready.room, own.same, took_a.counted.same, took_b.counted.same)) three badgeC (rw q form.zero_c)
        (λ t. absurd (false≢true (sym facts.no_text_c ∙ t)))

    words-took : TookWords tree bytes r l₀ l₃ (true && true && true && eqb words.d 0 && eqb words.e 0) below
    words-took =
        took-words tree bytes r (row_of k) words row_is s.of l₀ l₁ l₂ true true (get_or l₀ (pa * 4) 0) (get_or l₀ (pb * 4) 0) took_a took_b
        l₃ l₃ l₃ true (eqb words.d 0) (eqb words.e 0) (get_or l₀ (pc * 4) 0) 0 0 took_c
        (unused_took tree bytes r (row_of k).d words.d words.e l₃ (unused_role (row_of k).d limit.2))
        (unused_took tree bytes r (row_of k).e words.e 0 l₃ (unused_role (row_of k).e limit.3))
        0 (get_or l₀ (pc * 4) 0) last below (sym (larger-none 0)) (sym (larger-none (get_or l₀ (pc * 4) 0))) lastIs belowIs

    none_found : k ≡ 25 → ⊥
    unfolding row_of
    none_found e = let u : is_unused (row_of 25).e ≡ true = rw e at limit.3 in absurd (false≢true u)

    module _ (n types : ℕ) (lead : TypesLead tree n types) (h : r < n) where
      all_right : true ≡ other_rules tree bytes r
      unfolding is_first_type
      all_right =
          let ok : true ≡ words_ok tree bytes r (row_at tree r) = rw (eq-eqb words.d 0 form.zero_d, eq-eqb words.e 0 form.zero_e) at words-took.right in
          let small : detail_of tree r < (row_of k).limit = rw limit.0 at form.limit in
          let marks : true ≡ ((not (eqb k 19) || eqb (detail_of tree r) 1 || eqb words.c none) && (not (eqb k 25) || leb 4 (detail_of tree r) || eqb words.e none)) = rw (form.marks, ne_eqb k 25 none_found) refl in
          let first : true ≡ is_first_type tree r = rw (le-leb 12 r s.ready.past) refl in
          let q : true ≡ ((eqb (pad_of tree r) 0 && ltb (detail_of tree r) (row_of k).limit && true) && true && true && (not (eqb k 1) || ltb r types)) =
          rw (eq-eqb (pad_of tree r) 0 form.pad, lt-ltb (detail_of tree r) (row_of k).limit small, ne_eqb k 1 limit.1) refl in
          q ∙ rules-told tree n types r lead h bytes k (detail_of tree r) (pad_of tree r) (row_of k) words s.ready.kind refl row_is s.of refl true true true ok marks first

      pub record_took : (class d : ℕ) (m : List ℕ) → class ≡ class_at tree (class_in l₃) r k words.a words.b
          → d ≡ pick (eqb k 12) below (capped 65 (below + 1)) → m ≡ stored l₃ r class d k → TookRecord tree bytes r l m true d
      record_took class d m classIs dIs mIs =
          let t =
          bytes-told tree n types r lead h bytes k (detail_of tree r) (pad_of tree r) (row_of k) words s.ready.kind refl row_is s.of refl
          l₀ l₃ m _ below class d known-own counting-own words-took classIs dIs (omega (arith, s.ready.room, own.same)) mIs true all_right in
          record { right = t.right; depth = t.depth; same = t.same ∙ own.same; known = t.known; counting = t.counting }

  -- as the code meets it
  pub slots-took : (ka kb kc : Bool) (below last : ℕ) → ka ≡ badge_allowed rules (k * 20) l₀ pa → kb ≡ badge_allowed rules (k * 20 + 5) l₀ pb → kc ≡ badge_allowed rules (k * 20 + 10) l₀ pc
      → not ((ka && kb && kc) && leb below 63) ≡ false
      → last ≡ larger (get_or l₀ (pb * 4) 0) (get_or l₀ (pc * 4) 0) → below ≡ larger (get_or l₀ (pa * 4) 0) last
      → (l₁ l₂ l₃ m : List ℕ) → l₁ ≡ counted l₀ pa → l₂ ≡ counted l₁ pb → l₃ ≡ counted l₂ pc
      → (class d : ℕ) → ((x b : ℕ) → x < most_records → (k ≡ 12 → words.a < x) → Place x (row_of k).b b pb → class ≡ class_at tree (class_in l₃) x k words.a b) → d ≡ pick (eqb k 12) below (capped 65 (below + 1)) → m ≡ stored l₃ r class d k
      → TookSlots tree r k words rules l m true d
  slots-took ka kb kc below last a b c ok lastIs belowIs l₁ l₂ l₃ m one two three class d classIs dIs mIs =
      let badges : (ka && kb && kc) ≡ true = and_left (ka && kb && kc) (leb below 63) (not-false ((ka && kb && kc) && leb below 63) ok) in
      let kab : (ka && kb) ≡ true = and_left (ka && kb) kc badges in
      record {
        took = λ e bytes n types form lead h.
            record_took l₁ l₂ l₃ one two three (sym a ∙ and_left ka kb kab) (sym b ∙ and_right ka kb kab) (sym c ∙ and_right (ka && kb) kc badges) below last lastIs belowIs bytes form n types lead h class d m (classIs r words.b s.ready.few (λ q. (item-lower q).0) s.b) dIs mIs;
        left = λ e. absurd (false≢true (sym e));
        same = slots_length l₁ l₂ l₃ one two three m class d mIs;
      }

-- ---- the whole record

-- neither form nor places are right
pub plain_left : (tree : List ℕ) (bytes r : ℕ) (l : List ℕ) → KnownBelow tree r l × Counting tree r l → TookPlain tree bytes r l l false 0
plain_left tree bytes r l ready = record { took = λ e. absurd (false≢true e); left = λ e. ready; same = refl }

-- both are right
pub slots-ready : (tree : List ℕ) (r k : ℕ) (words : Words) (pa pb pc : ℕ) (l rules : List ℕ) → PlainReady tree r k l rules → WordsOf tree r words
    → (pa ≡ (words.a + 1) % 4294967296 * get_or rules (k * 20) 0) × (words.a < 4294967296)
    → (pb ≡ (words.b + 1) % 4294967296 * get_or rules (k * 20 + 5) 0) × (words.b < 4294967296)
    → (pc ≡ (words.c + 1) % 4294967296 * get_or rules (k * 20 + 10) 0) × (words.c < 4294967296)
    → (form qa qb qc : Bool) → qa ≡ (leb (get_or rules (k * 20 + 1) 0) pa && leb pa r) → qb ≡ (leb (get_or rules (k * 20 + 5 + 1) 0) pb && leb pb r) → qc ≡ (leb (get_or rules (k * 20 + 10 + 1) 0) pc && leb pc r)
    → not (form && (qa && qb && qc)) ≡ false → WordSlots tree r k words pa pb pc l rules
slots-ready tree r k words pa pb pc l rules ready of a b c form qa qb qc ea eb ec ok =
    let facts : RowFacts rules k = rw ready.table (row_facts k ready.small) in
    let all : (qa && qb && qc) ≡ true = and_right form (qa && qb && qc) (not-false (form && (qa && qb && qc)) ok) in
    let two : (qa && qb) ≡ true = and_left (qa && qb) qc all in
    record {
      ready = ready;
      of = of;
      a = placed rules (k * 20) (row_of k).a facts.a r words.a pa a.1 a.0 (sym ea ∙ and_left qa qb two);
      b = placed rules (k * 20 + 5) (row_of k).b facts.b r words.b pb b.1 b.0 (sym eb ∙ and_right qa qb two);
      c = placed rules (k * 20 + 10) (row_of k).c facts.c r words.c pc c.1 c.0 (sym ec ∙ and_right (qa && qb) qc all);
    }

pub plain_took : (tree : List ℕ) (bytes r k : ℕ) (words : Words) (rules l l' : List ℕ) (ok : Bool) (d : ℕ) (form rest : Bool)
    → not (form && rest) ≡ false → (form ≡ true → PlainForm tree bytes r k words rules) → TookSlots tree r k words rules l l' ok d → TookPlain tree bytes r l l' ok d
plain_took tree bytes r k words rules l l' ok d form rest e told t =
    record { took = λ q n types lead h. t.took q bytes n types (told (and_left form rest (not-false (form && rest) e))) lead h; left = t.left; same = t.same }

-- a record that was taken so
pub plain_record : (tree : List ℕ) (bytes r : ℕ) (l l' : List ℕ) (ok : Bool) (d n types : ℕ) → TookPlain tree bytes r l l' ok d → ok ≡ true → TypesLead tree n types → r < n → TookRecord tree bytes r l l' ok d
plain_record tree bytes r l l' ok d n types t e lead h = rw e (t.took e n types lead h)

-- the record is taken again, by the rules
pub took-after : (tree : List ℕ) (bytes r : ℕ) (l m l' : List ℕ) (ok : Bool) (d : ℕ) → length m ≡ length l → TookRecord tree bytes r m l' ok d → TookRecord tree bytes r l l' ok d
took-after tree bytes r l m l' ok d e t =
    record { right = t.right; depth = t.depth; same = t.same ∙ e; known = t.known; counting = t.counting }
