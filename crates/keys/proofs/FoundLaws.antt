-- What a walk along the chain of a key's digest finds: a function whose key is the text is the one that `get_function` finds, since no two have one key; and
-- where no function has the text as its key, it finds none. By the functions one after the other. Assumes nothing.
use mathlib.Core.Path.{◌≡◌, refl, sym, ap, ◌∙◌}
use mathlib.Core.Logic.{⊎_elim}
use mathlib.Core.Bool.{Bool, true, false, ◌&&◌}
use mathlib.Core.List.{List, [], ◌∷◌, ◌++◌, append_assoc, append-nil}
use mathlib.Core.Option.{none as nothing, some}
use Prim.Native.Nat.{ℕ, zero, suc, ◌≤◌, ◌<◌}
use native.Mathlib.Nat.{eq-or-lt_of_le}
use native.Mathlib.Omega.{arith}
use Rattle.laws.specs.Chain.{Walked}
use Rattle.laws.specs.Fix.{pick}
use Rattle.laws.proofs.ChainLaws.{link_falls, walked_start, walked_on, walked_end}
use Rattle.laws.proofs.Tests.{tested, and_left, and_right}
use Rattle.records.specs.Chains.{bucket_of}
use Rattle.records.specs.Digest.{digest_end, roll_of}
use Rattle.records.specs.Words.{word_at, records}
use Rattle.records.proofs.ChainedLaws as chained
use Rattle.records.proofs.DigestLaws.{same-equal}
use Rattle.records.proofs.TextLaws.{same_self}
use Rattle.syntax.specs.Syntax.{Text, Function}
use Rattle.syntax.specs.Decode.{program}
use Rattle.syntax.specs.Places.{FunctionAt, function_of}
use Rattle.conversion.specs.ConvertError as C
use Rattle.conversion.specs.ConvertError.{Result, ok, err}
use Rattle.conversion.specs.Ir.{same_text}
use Rattle.conversion.specs.Expressions.{Functions, get_function}
use Rattle.conversion.specs.Functions.{get_all_functions}
use Rattle.texts.specs.Texts.{original_at, text_digest_at}
use Rattle.keys.specs.Keys.{function_key, keyed, records_below, function_places, functions_of, all_keys, key_head_at, is_function, key_roll, key_bucket, Keyed}
use Rattle.keys.proofs.ChainLaws.{is_function_lem, function-here}
use Rattle.keys.proofs.FunctionLaws.{all_functions_lem, functions-append}
use Rattle.keys.proofs.KeyLaws.{find_hit, find_miss, find_later, keyed-append, Turn, turn, refused, added}

end_small : (d : ℕ) → digest_end d < 4294967296
unfolding digest_end
end_small d = omega arith

-- ---- no two functions have one key

not-ok : {k : C.ConvertErrorKind} {r : ℕ} {G : Functions} → ◌≡◌ {A = Result Functions} (err k r) (ok G) → ⊥
not-ok e = let y : ◌≡◌ {A = ℕ} 0 1 = cc in omega arith

-- function f came behind those of l: none of them has its key
key_new : (l m : List Function) (f : Function) (F G : Functions) → get_all_functions (l ++ (f ∷ m)) F ≡ ok G → get_function (function_key f) (F ++ keyed l) ≡ nothing
unfolding get_all_functions keyed C.◌>>=◌
key_new [] m f F G e = go (turn f F) e
  where
    go : {R : Result Functions} → Turn f F R → C.◌>>=◌ R (λ H. get_all_functions m H) ≡ ok G → get_function (function_key f) (F ++ []) ≡ nothing
    go refused q = absurd (not-ok q)
    go (added n) q = ap (get_function (function_key f)) (append-nil F) ∙ n
key_new (g ∷ l) m f F G e = go (turn g F) e (λ H. key_new l m f H G)
  where
    go : {R : Result Functions} → Turn g F R → C.◌>>=◌ R (λ H. get_all_functions (l ++ (f ∷ m)) H) ≡ ok G
        → ((H : Functions) → get_all_functions (l ++ (f ∷ m)) H ≡ ok G → get_function (function_key f) (H ++ keyed l) ≡ nothing)
        → get_function (function_key f) (F ++ ((function_key g, g) ∷ keyed l)) ≡ nothing
    go refused q rest = absurd (not-ok q)
    go (added n) q rest =
        ap (get_function (function_key f)) (sym (append_assoc F ((function_key g, g) ∷ []) (keyed l))) ∙ rest (F ++ ((function_key g, g) ∷ [])) q

-- the functions' records among the first n: those below f, f, and the rest
record Split (tree : List ℕ) (n f : ℕ) : Type 0 where
  rest : List ℕ
  is : records_below tree n ≡ records_below tree f ++ (f ∷ rest)

split : (tree : List ℕ) (n f : ℕ) → f < n → is_function tree f ≡ true → Split tree n f
unfolding records_below pick
split tree zero f h t = absurd (omega arith)
split tree (suc r) f h t =
    let le : f ≤ r = omega arith in
    ⊎_elim
    (λ (q : f ≡ r). record { rest = []; is = rw (sym q, t) refl })
    (λ (l : f < r).
    let before = split tree r f l t in
    let one : List ℕ = pick (is_function tree r) (r ∷ []) [] in
    record { rest = before.rest ++ one; is = ap (λ (x : List ℕ). x ++ one) before.is ∙ append_assoc (records_below tree f) (f ∷ before.rest) one })
    (eq-or-lt_of_le le)

module _ (tree text : List ℕ) where
  abbrev keys_of : List ℕ → Functions
  keys_of l = keyed (functions_of tree text l)

  keys-are : all_keys tree text ≡ keys_of (function_places tree)
  unfolding all_keys
  keys-are = ap keyed (all_functions_lem tree text)

  keys-append : (l m : List ℕ) → keys_of (l ++ m) ≡ keys_of l ++ keys_of m
  keys-append l m = ap keyed (functions-append tree text l m) ∙ keyed-append (functions_of tree text l) (functions_of tree text m)

  pub key_found : get_all_functions (program tree text).functions [] ≡ ok (all_keys tree text) → (f : ℕ) → FunctionAt tree f
      → get_function (function_key (function_of tree text f)) (all_keys tree text) ≡ some (function_of tree text f)
  unfolding functions_of keyed
  key_found distinct f at =
      let s = split tree (records tree) f at.below (is_function_lem tree text f at) in
      let key : Text = function_key (function_of tree text f) in
      let new : get_function key (keys_of (records_below tree f)) ≡ nothing =
      key_new (functions_of tree text (records_below tree f)) (functions_of tree text s.rest) (function_of tree text f) [] (all_keys tree text)
      (ap (λ (l : List Function). get_all_functions l []) (sym (all_functions_lem tree text ∙ ap (functions_of tree text) s.is ∙ functions-append tree text (records_below tree f) (f ∷ s.rest))) ∙ distinct) in
      ap (get_function key) (keys-are ∙ ap keys_of s.is ∙ keys-append (records_below tree f) (f ∷ s.rest))
      ∙ find_later key (keys_of (records_below tree f)) (keys_of (f ∷ s.rest)) new
      ∙ find_hit key (key, function_of tree text f) (keys_of s.rest) (same_self key)

  -- record i is a function, and its key is t
  abbrev pub key_hit : Text → ℕ → Bool
  key_hit t i = is_function tree i && same_text t (function_key (function_of tree text i))

  none_below : (t : Text) (n : ℕ) → ((i : ℕ) → i < n → key_hit t i ≡ false) → get_function t (keys_of (records_below tree n)) ≡ nothing
  unfolding records_below functions_of keyed get_function pick
  none_below t zero h = refl
  none_below t (suc r) h =
      ap (get_function t) (keys-append (records_below tree r) (pick (is_function tree r) (r ∷ []) []))
      ∙ find_later t (keys_of (records_below tree r)) (keys_of (pick (is_function tree r) (r ∷ []) [])) (none_below t r (λ i k. h i (omega arith)))
      ∙ last (is_function tree r) refl
    where
      last : (b : Bool) → is_function tree r ≡ b → get_function t (keys_of (pick b (r ∷ []) [])) ≡ nothing
      last true e =
          find_miss t (function_key (function_of tree text r), function_of tree text r) []
          (ap (λ (x : Bool). x && same_text t (function_key (function_of tree text r))) (sym e) ∙ h r (omega arith))
      last false e = refl

  -- ---- the walk, as the code makes it: d is the digest of the text t that is looked for

  abbrev pub KeyWalk : Text → ℕ → ℕ → Type 0
  KeyWalk t d v = Walked (key_hit t) (key_bucket tree text) (records tree) (bucket_of (records tree) (digest_end d)) v

  module _ (s : List ℕ) (K : Keyed tree text s) (t : Text) (d : ℕ) (ed : d ≡ roll_of t) where
    together : (i : ℕ) → key_hit t i ≡ true → key_bucket tree text i ≡ bucket_of (records tree) (digest_end d)
    together i h =
        chained.bucket_member (is_function tree) (λ k. digest_end (key_roll tree text k)) (records tree) i (and_left (is_function tree i) _ h)
        ∙ ap (λ (x : ℕ). bucket_of (records tree) (digest_end x)) (ap roll_of (sym (same-equal t (function_key (function_of tree text i)) (and_right (is_function tree i) _ h))) ∙ sym ed)

    bucket_small : 0 < records tree → bucket_of (records tree) (digest_end d) < records tree
    bucket_small h = chained.bucket_small (digest_end d) (records tree) (end_small d) h

    pub key_start : (v : ℕ) → 0 < records tree → v ≡ word_at s (key_head_at (records tree) (bucket_of (records tree) (digest_end d))) → KeyWalk t d v
    key_start v h e =
        walked_start (key_hit t) (key_bucket tree text) (records tree) (bucket_of (records tree) (digest_end d)) together v
        (e ∙ K.by_key.heads (bucket_of (records tree) (digest_end d)) (bucket_small h))

    pub key_end : (v : ℕ) → v ≤ 0 → KeyWalk t d v → get_function t (all_keys tree text) ≡ nothing
    key_end v z w =
        ap (get_function t) keys-are
        ∙ none_below t (records tree) (walked_end (key_hit t) (key_bucket tree text) (records tree) (bucket_of (records tree) (digest_end d)) together v z w)

    -- the walk stands one past f
    module _ (v f : ℕ) (w : KeyWalk t d v) (z : v ≡ suc f) where
      here-below : f < records tree
      here-below = omega (arith, w.within)

      in_bucket_lem : key_bucket tree text f < records tree
      in_bucket_lem = omega (arith, w.here f z, bucket_small (omega (arith, here-below)))

      pub key_function : FunctionAt tree f
      key_function =
          function-here tree text f here-below (chained.member_here (is_function tree) (λ k. digest_end (key_roll tree text k)) (records tree) f in_bucket_lem)

      pub hit_is : (b : Bool) → same_text t (function_key (function_of tree text f)) ≡ b → key_hit t f ≡ b
      hit_is b e = rw (is_function_lem tree text f key_function) e

      -- a key with another digest is another
      pub key_skip : (x : ℕ) → x ≡ word_at s (text_digest_at (records tree) f) → (x ≡ d → ⊥) → key_hit t f ≡ false
      key_skip x ex n =
          hit_is false
          (tested (same_text t (function_key (function_of tree text f)))
          (λ y. absurd (n (ex ∙ K.digests f here-below key_function ∙ ap roll_of (sym (same-equal t (function_key (function_of tree text f)) y)) ∙ sym ed)))
          (λ y. y))

      pub key_next : (u : ℕ) → key_hit t f ≡ false → u ≡ word_at s (original_at (records tree) f) → KeyWalk t d u
      key_next u miss e =
          walked_on (key_hit t) (key_bucket tree text) (records tree) (bucket_of (records tree) (digest_end d)) together v f u w z miss
          (e ∙ K.by_key.links f here-below in_bucket_lem)

      pub key_less : (u : ℕ) → u ≡ word_at s (original_at (records tree) f) → u < v
      key_less u e = omega (arith, link_falls (key_bucket tree text) f u (e ∙ K.by_key.links f here-below in_bucket_lem))

      pub key_here : same_text t (function_key (function_of tree text f)) ≡ true → get_function t (all_keys tree text) ≡ some (function_of tree text f)
      key_here e =
          ap (λ (x : Text). get_function x (all_keys tree text)) (same-equal t (function_key (function_of tree text f)) e) ∙ key_found K.distinct f key_function
