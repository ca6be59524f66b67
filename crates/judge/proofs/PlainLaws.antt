-- A right record that uses A, B and C alone, taken by the table of rules: what a word leads to, that it is right, how deep it is, and its count.
-- The table is held to the rows by computing; a word goes by whether its slot is slot 0. Assumes nothing.
use mathlib.Core.Path.{◌≡◌, refl, sym, ap, ◌∙◌}
use Prim.Native.Nat.{ℕ, zero, suc, ◌+◌, ◌*◌, ◌/◌, ◌%◌, ◌≤◌, ◌<◌}
use mathlib.Core.Bool.{Bool, true, false, not, ◌&&◌, ◌||◌, false≢true}
use mathlib.Core.List.{List}
use native.Mathlib.Nat.{mul-le-mul_right}
use native.Mathlib.Omega.{arith}
use lib.Dec.{eqb, leb}
use lib.ListN.{length, get_or, set, length-set}
use lib.Seq.{get_or-set_same, get_or-set_other}
use borrow.Author.Tests.{eqb-true, eqb-false, leb-true, le-leb, eq-eqb, ne_eqb}
use Rattle.laws.specs.Below.{all_below}
use Rattle.laws.proofs.AllBelow.{all-at}
use Rattle.laws.proofs.FixLaws.{pick_yes, pick_no}
use Rattle.laws.proofs.Tests.{tested, and_left, and_right}
use Rattle.records.specs.declared.shape.Role.{Role}
use Rattle.records.specs.declared.shape.Role.TheVariants.{Unused, Number, Text, Length, Expr, TypeRef, TypeOrNone, Name, Variable, Arguments, Parameters, Body, Item, Rest}
use Rattle.records.specs.Rules.{word_ok, refers_to}
use Rattle.records.specs.Depth.{depth_below}
use Rattle.records.specs.Words.{kind_of, detail_of, none, bool_number, most_records}
use Rattle.records.specs.Shapes.{refers, row_of, row_at, shape_of}
use Rattle.judge.specs.Inner.{capped, shallow_depth, class_in, count_in, kind_in, list_number, low_badge, high_badge, none_ok, KnownBelow, Counting, Counted, is_unused}
use Rattle.judge.proofs.CapLaws.{cap_high}
use Rattle.judge.proofs.CountLaws.{refers-not, refers-other, refers-same, cap_plus}
use Rattle.judge.proofs.DepthLaws.{below_none, below-told, below_later}
use Rattle.judge.proofs.BadgeLaws.{reference-out, reference_in}
use Rattle.judge.specs.Plain.{plain_rules, is_text, rule_fits, row_fits, Place, Owned}

pub scaled_small : (x y : ℕ) → x ≤ 8589934592 → y < 256 → x * y ≤ 2190433320960
scaled_small x y h b = omega (arith, mul-le-mul_right y h)

pub owned : (l : List ℕ) (class kind : ℕ) → 4 ≤ length l → Owned l (set (set (set (set l 0 0) 1 0) 2 class) 3 kind)
owned l class kind h =
    record {
      same = simp length-set;
      depth = kept 0 (λ e. omega arith) (λ e. omega arith) (λ e. omega arith) ∙ get_or-set_same l 0 0 0 (omega arith);
      others = λ x g. kept x (λ e. omega arith) (λ e. omega arith) (λ e. omega arith) ∙ get_or-set_other l 0 x 0 0 (λ e. omega arith);
    }
  where
    kept : (x : ℕ) → (1 ≡ x → ⊥) → (2 ≡ x → ⊥) → (3 ≡ x → ⊥) → get_or (set (set (set (set l 0 0) 1 0) 2 class) 3 kind) x 0 ≡ get_or (set l 0 0) x 0
    kept x a b c =
        get_or-set_other (set (set (set l 0 0) 1 0) 2 class) 3 x kind 0 (λ e. c (omega arith))
        ∙ get_or-set_other (set (set l 0 0) 1 0) 2 x class 0 (λ e. b (omega arith))
        ∙ get_or-set_other (set l 0 0) 1 x 0 0 (λ e. a (omega arith))

-- ---- the table

table : all_below 26 (row_fits plain_rules) ≡ true
unfolding all_below row_fits rule_fits row_of bool_number
table = refl

pub row_fits_lem : (k : ℕ) → k < 26 → row_fits plain_rules k ≡ true
row_fits_lem k h = all-at (row_fits plain_rules) 26 k table h

-- ---- a word

-- what the five numbers of a word say of its role
pub record RuleFacts (rules : List ℕ) (at : ℕ) (role : Role) : Type 0 where
  pub refers_is : get_or rules at 0 ≡ bool_number (refers role)
  pub least_is : get_or rules (at + 1) 0 ≡ bool_number (refers role && not (none_ok role))
  pub low : refers role ≡ true → low_badge role ≤ get_or rules (at + 2) 0
  pub high : refers role ≡ true → get_or rules (at + 3) 0 ≤ high_badge role
  pub zero_is : get_or rules (at + 4) 0 ≡ bool_number (is_unused role)
  pub small : get_or rules (at + 3) 0 ≤ 255

implied : (s t : Bool) → (not s || t) ≡ true → s ≡ true → t ≡ true
implied true t e h = e
implied false t e h = absurd (false≢true h)

pub six : (a b c d e f : Bool) → (a && b && c && d && e && f) ≡ true → (a ≡ true) × (b ≡ true) × (c ≡ true) × (d ≡ true) × (e ≡ true) × (f ≡ true)
six true true true true true true h = (refl, refl, refl, refl, refl, refl)
six false b c d e f h = absurd (false≢true h)
six true false c d e f h = absurd (false≢true h)
six true true false d e f h = absurd (false≢true h)
six true true true false e f h = absurd (false≢true h)
six true true true true false f h = absurd (false≢true h)
six true true true true true false h = absurd (false≢true h)

pub rule_facts : (rules : List ℕ) (at : ℕ) (role : Role) → rule_fits rules at role ≡ true → RuleFacts rules at role
unfolding rule_fits
rule_facts rules at role e =
    let is : Bool = eqb (get_or rules at 0) (bool_number (refers role)) in
    let least : Bool = eqb (get_or rules (at + 1) 0) (bool_number (refers role && not (none_ok role))) in
    let low : Bool = not (refers role) || leb (low_badge role) (get_or rules (at + 2) 0) in
    let high : Bool = not (refers role) || leb (get_or rules (at + 3) 0) (high_badge role) in
    let nought : Bool = eqb (get_or rules (at + 4) 0) (bool_number (is_unused role)) in
    let small : Bool = leb (get_or rules (at + 3) 0) 255 in
    let f = six is least low high nought small e in
    record {
      refers_is = eqb-true _ _ f.0;
      least_is = eqb-true _ _ f.1;
      low = λ h. leb-true _ _ (implied (refers role) (leb (low_badge role) (get_or rules (at + 2) 0)) f.2 h);
      high = λ h. leb-true _ _ (implied (refers role) (leb (get_or rules (at + 3) 0) (high_badge role)) f.3 h);
      zero_is = eqb-true _ _ f.4;
      small = leb-true _ _ f.5;
    }

module _ (rules : List ℕ) (at : ℕ) (role : Role) (facts : RuleFacts rules at role) (r w p : ℕ) where
  pub placed : w < 4294967296 → p ≡ (w + 1) % 4294967296 * get_or rules at 0 → (leb (get_or rules (at + 1) 0) p && leb p r) ≡ true → Place r role w p
  unfolding bool_number
  placed few is ok =
      let inside : p ≤ r = leb-true p r (and_right (leb (get_or rules (at + 1) 0) p) (leb p r) ok) in
      let least : get_or rules (at + 1) 0 ≤ p = leb-true (get_or rules (at + 1) 0) p (and_left (leb (get_or rules (at + 1) 0) p) (leb p r) ok) in
      tested (refers role)
      (λ t.
      let one : get_or rules at 0 ≡ 1 = rw t at facts.refers_is in
      let q : p ≡ (w + 1) % 4294967296 * 1 = rw one at is in
      record {
        within = inside;
        lower = λ i e. (t, omega arith);
        own = λ e y. (omega arith, tested (none_ok role) (λ s. s) (λ s. let m : get_or rules (at + 1) 0 ≡ 1 = rw (t, s) at facts.least_is in absurd (omega arith)));
      })
      (λ t.
      let nought : get_or rules at 0 ≡ 0 = rw t at facts.refers_is in
      let q : p ≡ (w + 1) % 4294967296 * 0 = rw nought at is in
      record {
        within = inside;
        lower = λ i e. absurd (omega arith);
        own = λ e y. absurd (false≢true (sym t ∙ y));
      })

  module _ (place : Place r role w p) (l : List ℕ) (tree : List ℕ) (few : r < most_records) where
    -- one more for the record in the slot
    pub counted-slot : p * 4 + 4 ≤ length l → Counted tree r (refers_to role w) l (set l (p * 4 + 1) ((get_or l (p * 4 + 1) 0 + 3) / 2))
    counted-slot room =
        let v = (get_or l (p * 4 + 1) 0 + 3) / 2 in
        record {
          same = length-set l (p * 4 + 1) v;
          grown = λ k hk n.
              tested (eqb p (k + 1))
              (λ t.
              let q : p ≡ k + 1 = eqb-true p (k + 1) t in
              let f = place.lower k q in
              let x : p * 4 + 1 ≡ k * 4 + 5 = omega arith in
              let e : refers_to role w k ≡ 1 = rw (sym f.1) (refers-same role k f.0) in
              ap (capped 2) (rw x (get_or-set_same l (k * 4 + 5) ((count_in l k + 3) / 2) 0 (omega arith)))
              ∙ more (count_in l k)
              ∙ ap (λ (y : ℕ). capped 2 (count_in l k + y)) (sym e))
              (λ t.
              let d : p ≡ k + 1 → ⊥ = eqb-false p (k + 1) t in
              ap (capped 2) (get_or-set_other l (p * 4 + 1) (k * 4 + 5) v 0 (λ e. d (omega arith)))
              ∙ cap_plus (count_in l k) (refers_to role w k) (other k hk d));
          classes = λ k. get_or-set_other l (p * 4 + 1) (k * 4 + 6) v 0 (λ e. omega arith);
          depths = λ k. get_or-set_other l (p * 4 + 1) (k * 4 + 4) v 0 (λ e. omega arith);
          kinds = λ k. get_or-set_other l (p * 4 + 1) (k * 4 + 7) v 0 (λ e. omega arith);
        }
      where
        more : (x : ℕ) → capped 2 ((x + 3) / 2) ≡ capped 2 (x + 1)
        more zero = refl
        more (suc x) = cap_high 2 ((suc x + 3) / 2) (omega arith) ∙ sym (cap_high 2 (suc x + 1) (omega arith))

        other : (k : ℕ) → k < r → (p ≡ k + 1 → ⊥) → refers_to role w k ≡ 0
        other k hk d =
            tested (refers role)
            (λ t. refers-other role w k (λ e. d (at_slot p refl k hk e t)))
            (λ t. refers-not role w k t)
          where
            at_slot : (x : ℕ) → p ≡ x → (k : ℕ) → k < r → w ≡ k → refers role ≡ true → p ≡ k + 1
            at_slot zero e k hk q t = let none = (place.own e t).0 in absurd (omega arith)
            at_slot (suc x) e k hk q t = let same : x ≡ w = (place.lower x (omega arith)).1 in omega arith

    -- how deep the record in the slot is
    pub slot_depth_lem : KnownBelow tree r l → get_or l 0 0 ≡ 0 → get_or l (p * 4) 0 ≡ depth_below (shallow_depth tree) r role w
    slot_depth_lem known free = go p refl
      where
        go : (x : ℕ) → p ≡ x → get_or l (p * 4) 0 ≡ depth_below (shallow_depth tree) r role w
        go zero e =
            rw e
            (free
            ∙ tested (refers role)
            (λ t. let none = (place.own e t).0 in below_later (shallow_depth tree) r role w w refl t (omega arith))
            (λ t. below_none (shallow_depth tree) r role w t))
        go (suc x) e =
            let f = place.lower x (omega arith) in
            let h : x < r = omega (arith, place.within) in
            let q : p * 4 ≡ x * 4 + 4 = omega arith in
            rw q (known.depths x h ∙ below-told (shallow_depth tree) r role w x f.1 f.0 h)

    -- the word is right
    pub slot-right : KnownBelow tree r l → (bytes next : ℕ) → (leb (get_or rules (at + 2) 0) (get_or l (p * 4 + 3) 0 * 4 + get_or l (p * 4 + 2) 0) && leb (get_or l (p * 4 + 3) 0 * 4 + get_or l (p * 4 + 2) 0) (get_or rules (at + 3) 0)) ≡ true
        → w * get_or rules (at + 4) 0 ≡ 0 → (is_text role ≡ true → w + next ≤ bytes) → true ≡ word_ok tree bytes r role w next
    unfolding word_ok bool_number
    slot-right known bytes next ok free text =
        tested (refers role)
        (λ t. go t p refl)
        (λ t. plain role t facts.zero_is text)
      where
        plain : (ρ : Role) → refers ρ ≡ false → get_or rules (at + 4) 0 ≡ bool_number (is_unused ρ) → (is_text ρ ≡ true → w + next ≤ bytes) → true ≡ word_ok tree bytes r ρ w next
        plain Unused e z t = let q : w * 1 ≡ 0 = rw z at free in sym (eq-eqb w 0 (omega arith))
        plain Number e z t = refl
        plain Text e z t = sym (le-leb (w + next) bytes (t refl))
        plain Length e z t = refl
        plain Expr e z t = absurd (false≢true (sym e))
        plain TypeRef e z t = absurd (false≢true (sym e))
        plain TypeOrNone e z t = absurd (false≢true (sym e))
        plain Name e z t = absurd (false≢true (sym e))
        plain Variable e z t = absurd (false≢true (sym e))
        plain Arguments e z t = absurd (false≢true (sym e))
        plain Parameters e z t = absurd (false≢true (sym e))
        plain Body e z t = absurd (false≢true (sym e))
        plain Item e z t = absurd (false≢true (sym e))
        plain Rest e z t = absurd (false≢true (sym e))

        go : refers role ≡ true → (x : ℕ) → p ≡ x → true ≡ word_ok tree bytes r role w next
        go t zero e =
            let f = place.own e t in
            sym (reference-out tree bytes r role w next t (omega (arith, f.0)) ∙ rw (eq-eqb w none f.0, f.1) refl)
        go t (suc x) e =
            let f = place.lower x (omega arith) in
            let h : x < r = omega (arith, place.within) in
            let q : p * 4 + 3 ≡ x * 4 + 7 = omega arith in
            let q₂ : p * 4 + 2 ≡ x * 4 + 6 = omega arith in
            let ok₂ : (leb (get_or rules (at + 2) 0) (kind_in l x * 4 + class_in l x) && leb (kind_in l x * 4 + class_in l x) (get_or rules (at + 3) 0)) ≡ true = rw (q, q₂) at ok in
            let lo : get_or rules (at + 2) 0 ≤ kind_in l x * 4 + class_in l x = leb-true _ _ (and_left (leb (get_or rules (at + 2) 0) (kind_in l x * 4 + class_in l x)) (leb (kind_in l x * 4 + class_in l x) (get_or rules (at + 3) 0)) ok₂) in
            let hi : kind_in l x * 4 + class_in l x ≤ get_or rules (at + 3) 0 = leb-true _ _ (and_right (leb (get_or rules (at + 2) 0) (kind_in l x * 4 + class_in l x)) (leb (kind_in l x * 4 + class_in l x) (get_or rules (at + 3) 0)) ok₂) in
            let fl = facts.low t in
            let fh = facts.high t in
            sym
            (reference_in tree bytes r w next (kind_in l x) (class_in l x) l known few (omega (arith, f.1)) (ap (kind_in l) f.1) (ap (class_in l) f.1) (omega (arith, facts.small)) role t
            ∙ rw (le-leb (low_badge role) (kind_in l x * 4 + class_in l x) (omega arith), le-leb (kind_in l x * 4 + class_in l x) (high_badge role) (omega arith)) refl)

-- ---- slot 0 is written

module _ (tree : List ℕ) (r : ℕ) (l l' : List ℕ) (o : Owned l l') where
  pub known_owned : KnownBelow tree r l → KnownBelow tree r l'
  known_owned k =
      record {
        lists = λ role i h. k.lists role i h ∙ ap (λ (x : ℕ). eqb x (list_number role)) (sym (o.others (i * 4 + 6) (omega arith)));
        small = λ i h. rw (o.others (i * 4 + 6) (omega arith)) (k.small i h);
        cells = λ i h n. o.others (i * 4 + 6) (omega arith) ∙ k.cells i h n;
        depths = λ i h. o.others (i * 4 + 4) (omega arith) ∙ k.depths i h;
        kinds = λ i h. o.others (i * 4 + 7) (omega arith) ∙ k.kinds i h;
      }

  pub counting-owned : Counting tree r l → Counting tree r l'
  counting-owned c = record { counts = λ i h n. ap (capped 2) (o.others (i * 4 + 5) (omega arith)) ∙ c.counts i h n }

-- ---- the row of a kind

seven : (a b c d e f g : Bool) → (a && b && c && d && e && f && g) ≡ true → (a ≡ true) × (b ≡ true) × (c ≡ true) × (d ≡ true) × (e ≡ true) × (f ≡ true) × (g ≡ true)
seven a b c d e f g h =
    let s = six a b c d e f (and_left (a && b && c && d && e && f) g h) in
    (s.0, s.1, s.2, s.3, s.4, s.5, and_right (a && b && c && d && e && f) g h)

pub either : (a b : Bool) → (a || b) ≡ true → a ≡ false → b ≡ true
either true b e f = absurd (false≢true (sym f))
either false b e f = e

pub flipped : (b : Bool) → not b ≡ true → b ≡ false
flipped true e = absurd (false≢true e)
flipped false e = refl

-- what the twenty numbers of a kind say of its row
pub record RowFacts (rules : List ℕ) (k : ℕ) : Type 0 where
  pub a : RuleFacts rules (k * 20) (row_of k).a
  pub b : RuleFacts rules (k * 20 + 5) (row_of k).b
  pub c : RuleFacts rules (k * 20 + 10) (row_of k).c
  pub text_is_lem : get_or rules (k * 20 + 15) 0 ≡ bool_number (is_text (row_of k).a)
  pub no_text_b : is_text (row_of k).b ≡ false
  pub no_text_c : is_text (row_of k).c ≡ false
  pub limited : (get_or rules (k * 20 + 16) 0 ≡ 0 → ⊥) → (get_or rules (k * 20 + 16) 0 ≡ (row_of k).limit) × (k ≡ 1 → ⊥) × (is_unused (row_of k).d ≡ true) × (is_unused (row_of k).e ≡ true)

pub row_facts : (k : ℕ) → k < 26 → RowFacts plain_rules k
unfolding row_fits
row_facts k h =
    let limit = get_or plain_rules (k * 20 + 16) 0 in
    let used : Bool = eqb limit (row_of k).limit && not (eqb k 1) && is_unused (row_of k).d && is_unused (row_of k).e in
    let f = seven (rule_fits plain_rules (k * 20) (row_of k).a) (rule_fits plain_rules (k * 20 + 5) (row_of k).b) (rule_fits plain_rules (k * 20 + 10) (row_of k).c) (eqb (get_or plain_rules (k * 20 + 15) 0) (bool_number (is_text (row_of k).a))) (not (is_text (row_of k).b)) (not (is_text (row_of k).c)) (eqb limit 0 || used) (row_fits_lem k h) in
    record {
      a = rule_facts plain_rules (k * 20) (row_of k).a f.0;
      b = rule_facts plain_rules (k * 20 + 5) (row_of k).b f.1;
      c = rule_facts plain_rules (k * 20 + 10) (row_of k).c f.2;
      text_is_lem = eqb-true _ _ f.3;
      no_text_b = flipped (is_text (row_of k).b) f.4;
      no_text_c = flipped (is_text (row_of k).c) f.5;
      limited = λ n.
          let g = six true true (eqb limit (row_of k).limit) (not (eqb k 1)) (is_unused (row_of k).d) (is_unused (row_of k).e) (either (eqb limit 0) used f.6 (ne_eqb limit 0 n)) in
          (eqb-true limit (row_of k).limit g.2, eqb-false k 1 (flipped (eqb k 1) g.3), g.4, g.5);
    }

-- the row of a record of this kind is the kind's
pub plain_row : (tree : List ℕ) (r k : ℕ) → k ≡ kind_of tree r → k < 26 → (k ≡ 1 → ⊥) → row_of k ≡ row_at tree r
unfolding row_at shape_of
plain_row tree r k e h n =
    let shape : shape_of k (detail_of tree r) ≡ k = pick_no (eqb k 1) _ _ (ne_eqb k 1 n) ∙ pick_yes (leb k 25) k 0 (le-leb k 25 (omega arith)) in
    ap row_of (sym shape ∙ ap (λ (x : ℕ). shape_of x (detail_of tree r)) e)
