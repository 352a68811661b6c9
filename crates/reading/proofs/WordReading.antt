-- One word more of a name, after the parts found so far: said from the list, or read from its frame, a part of the name's.
-- Assumes nothing.
use Rattle.std.specs.Prelude.{Err, Ok, Result}
use Prim.Native.Nat.{ℕ, suc, ◌+◌, ◌-◌, ◌≤◌, ◌<◌}
use mathlib.Core.Path.{◌≡◌, refl, sym, ap, ap₂, ◌∙◌, subst}
use mathlib.Core.List.{List, [], ◌∷◌, ◌++◌, map-append}
use mathlib.Core.Bool.{Bool, true, cond}
use native.Mathlib.Omega.{arith}
use native.Mathlib.Numerals.{add-one}
use borrow.Author.Tests.{lt-ltb, le-ltb, eqb-true, eqb-false}
use native.Mathlib.Decide.{dec_le}
use lib.Dec.{eqb, ltb}
use lib.ListN.{length, get_or, take, drop, set, length-set, length-append, get_or-append}
use lib.Seq.{take-suc-set, take-append-add, get_or-set_same, get_or-set_other, get_or-take, get_or-append-add, length-take-le}
use Rattle.rules.proofs.Cases.{by_bool}
use Rattle.rules.specs.Limits.{max_rules, max_name}
use Rattle.rules.specs.Names.{SoundName}
use Rattle.exceptions.specs.Layout.{words_of, phones_ending}
use Rattle.exceptions.specs.Judging.{says_of, StateOf}
use Rattle.image.specs.Image.{count_of, valid}
use Rattle.image.proofs.Tests.{valid_count}
use Rattle.fitting.specs.Fitting.{Str, frame}
use Rattle.fitting.specs.Reading.{Piece, listed, Reading, finished, after}
use Rattle.speech.specs.Words.{word, in_name, phones_or, read_word, frame_of, word_at, WordOf}
use Rattle.speech.specs.Places.{place_in, pieces_at, piece_at, Within, reading_of, EndsBy, Placed, part_at, parts_at, PartIn, PartsIn, frame_size, FoundFor, PartsSoFar, ReadOn, ended_in}
use Rattle.speech.specs.declared.Unread.{Unread}
use Rattle.speech.specs.declared.Unread.TheVariants.{Uncovered, BadTables}
use Rattle.reading.proofs.Plain.{not_rules, not_rules_16}
use Rattle.reading.proofs.NameWords.{word_long, word_frame, frame_length}
use Rattle.reading.proofs.FoundWord.{state_most}
use Rattle.fitting.proofs.Strings.{frame_long}

-- ---- the frame of a word, a part of the name's

module _ (name f : Str) (is : f ≡ frame_of name) (b e : ℕ) (w : WordOf name b e) where
  pub part_frame : take (e + 1 - b) (drop b f) ≡ frame (word_at name b)
  part_frame = ap (λ (l : Str). take (e + 1 - b) (drop b l)) is ∙ word_frame name b e w

  pub part_long : length (take (e + 1 - b) (drop b f)) ≡ length (word_at name b) + 2
  part_long = ap length part_frame ∙ frame_long (word_at name b)

  pub part_inside : e + 1 ≤ length f
  part_inside = omega (arith, ap length is, frame_length name, word_long name b w.inside, w.ends)

  pub part_bound : SoundName name → b + length (word_at name b) ≤ max_name
  part_bound s = omega (arith, word_long name b w.inside, s.short)

pub ends_most : (n k : ℕ) (r : Result ℕ Unread) → EndsBy n r → n ≤ k → EndsBy k r
ends_most n k (Ok j) h l = omega arith
ends_most n k (Err (Uncovered i)) h l = omega arith
ends_most n k (Err BadTables) h l = tt

-- ---- one word more

-- a word that the list gives phones for is said from it
pub listed_word : (p : Str) (r : Reading) → 1 ≤ length p → phones_or p r ≡ finished (listed p ∷ [])
listed_word [] r h = absurd (omega arith)
listed_word (x ∷ p) r h = refl

-- a part that is a state of the list
state_part : (image list : List ℕ) (p : ℕ) → max_rules ≤ p → place_in p ≡ p → part_at image list p ≡ listed (phones_ending (words_of list) (p - max_rules))
state_part image list p h e =
    ap (λ (q : ℕ). cond (ltb q max_rules) (piece_at image p) (listed (phones_ending (words_of list) (q - max_rules)))) e
    ∙ ap (λ (b : Bool). cond b (piece_at image p) (listed (phones_ending (words_of list) (p - max_rules)))) (le-ltb p max_rules h)

found_place : (list : List ℕ) (w : Str) (p : ℕ) → FoundFor list w p → 0 < p → place_in p ≡ p
found_place list w p f h = omega (arith, state_most list (p - max_rules) (f.state h).1)

-- parts of rules alone
rule_parts : (image list : List ℕ) → valid image ≡ true → (ps : List ℕ) → Within image ps → parts_at image list ps ≡ pieces_at image ps
rule_parts image list ok [] h = refl
rule_parts image list ok (p ∷ ps) h =
    ap₂ (λ (x : Piece) (l : List Piece). x ∷ l)
    (ap (λ (b : Bool). cond b (piece_at image p) (listed (phones_ending (words_of list) (place_in p - max_rules)))) (lt-ltb (place_in p) max_rules (omega (arith, valid_count image ok, h 0 (omega arith)))))
    (rule_parts image list ok ps (λ k u. h (suc k) (omega arith)))

rule-in : (image list : List ℕ) → valid image ≡ true → (p : ℕ) → place_in p < count_of image → PartIn image list p
rule-in image list ok p h = record { rule = λ u. h; state = λ u. absurd (omega (arith, valid_count image ok)) }

module _ (image list ps : List ℕ) (count b : ℕ) (s : PartsSoFar image list ps count b) (near : b ≤ max_name) where
  pub room : count < length ps
  room = omega (arith, s.few, s.sized)

  module _ (p : ℕ) (in_List : PartIn image list p) where
    part_in : PartsIn image list (take (count + 1) (set ps count p))
    part_in j h =
        let l = length-take-le (count + 1) (set ps count p) (omega (arith, length-set ps count p, room)) in
        let u : j < count + 1 = omega arith in
        subst (PartIn image list) (sym (get_or-take (count + 1) (set ps count p) j 0 u))
        (by_bool (eqb j count) (λ q. subst (PartIn image list) (sym (ap (λ (x : ℕ). get_or (set ps count p) x 0) (eqb-true j count q) ∙ get_or-set_same ps count p 0 room)) in_List)
        (λ q.
        let d : j < count = omega (arith, eqb-false j count q) in
        let t = length-take-le count ps (omega (arith, room)) in
        subst (PartIn image list) (get_or-take count ps j 0 d ∙ sym (get_or-set_other ps count j p 0 (eqb-false j count q))) (s.within j (omega arith))))

    one_part : parts_at image list (take (count + 1) (set ps count p)) ≡ parts_at image list (take count ps) ++ (part_at image list p ∷ [])
    one_part =
        ap (parts_at image list) (ap (λ (x : ℕ). take x (set ps count p)) (add-one count) ∙ take-suc-set ps count p room)
        ∙ map-append (part_at image list) (take count ps) (p ∷ [])

  module _ (w : Str) (e : ℕ) (is : e ≡ suc (b + length w)) (read : Str → Reading) where
    -- said from the list
    pub listed_part : (p : ℕ) → 0 < p → FoundFor list w p
        → ReadOn image list (parts_at image list (take count ps)) (read_word (says_of list) read (word b w)) e (set ps count p) (Ok (count + 1))
    listed_part p h f =
        let q = found_place list w p f h in
        let i : PartIn image list p = record { rule = λ u. absurd (omega (arith, (f.state h).0)); state = λ u. subst (λ (x : ℕ). StateOf list (x - max_rules)) (sym q) (f.state h).1 } in
        record {
          parted = record {
            sized = length-set ps count p ∙ s.sized;
            few = omega (arith, s.few);
            within = λ k y. let z : count + 1 ≡ k = cc in rw (sym z) (part_in p i);
          };
          says = ap finished
              (one_part p i
              ∙ ap (λ (x : Piece). parts_at image list (take count ps) ++ (x ∷ [])) (state_part image list p (f.state h).0 q ∙ ap listed (f.says h)))
              ∙ sym (ap (after (parts_at image list (take count ps))) (listed_word (says_of list w) (in_name b (read w)) (f.some h)));
        }

    -- read by rules, whose parts were laid after the others
    module _ (ok : valid image ≡ true) (ps₂ ps' : List ℕ) (laid : ps' ≡ take count ps ++ ps₂) (long : length ps' ≡ length ps) (r : Result ℕ Unread) (placed : Placed image (length w) ps₂ r)
        (absent : says_of list w ≡ []) (said : reading_of image ps₂ r ≡ read w) where
      word_is : read_word (says_of list) read (word b w) ≡ in_name b (reading_of image ps₂ r)
      word_is = ap₂ (λ (p : Str) (x : Reading). phones_or p (in_name b x)) absent (sym said)

      front : length (take count ps) ≡ count
      front = length-take-le count ps (omega (arith, room))

      joined : (k : ℕ) → take (count + k) ps' ≡ take count ps ++ take k ps₂
      joined k = ap (take (count + k)) laid ∙ (ap (λ (x : ℕ). take (x + k) (take count ps ++ ps₂)) (sym front) ∙ take-append-add (take count ps) ps₂ k)

      within_both : (k : ℕ) → Within image (take k ps₂) → PartsIn image list (take (count + k) ps')
      within_both k u = subst (PartsIn image list) (sym (joined k)) both
        where
          both : PartsIn image list (take count ps ++ take k ps₂)
          both j h = go (dec_le (length (take count ps)) j)
            where
              go : Dec (length (take count ps) ≤ j) → PartIn image list (get_or (take count ps ++ take k ps₂) j 0)
              go (no n) =
                  subst (PartIn image list) (sym (get_or-append (take count ps) (take k ps₂) 0 j (omega arith))) (s.within j (omega arith))
              go (yes y) =
                  let t = length-append (take count ps) (take k ps₂) in
                  let z : length (take count ps) + (j - length (take count ps)) ≡ j = omega arith in
                  subst (PartIn image list) (sym (ap (λ (x : ℕ). get_or (take count ps ++ take k ps₂) x 0) (sym z) ∙ get_or-append-add (take count ps) (take k ps₂) (j - length (take count ps)) 0))
                  (rule-in image list ok _ (u (j - length (take count ps)) (omega arith)))

      pub read_part : (x : Result ℕ Unread) → x ≡ ended_in count b r → ReadOn image list (parts_at image list (take count ps)) (read_word (says_of list) read (word b w)) e ps' x
      read_part x q = subst (λ (y : Result ℕ Unread). ReadOn image list (parts_at image list (take count ps)) (read_word (says_of list) read (word b w)) e ps' y) (sym q) (by r refl)
        where
          sized : length ps' ≡ frame_size
          sized = long ∙ s.sized

          by : (y : Result ℕ Unread) → r ≡ y → ReadOn image list (parts_at image list (take count ps)) (read_word (says_of list) read (word b w)) e ps' (ended_in count b r)
          by (Ok k) z =
              let u = placed.within k z in
              let f : k ≤ length w = subst (EndsBy (length w)) z placed.few in
              subst (λ (y : Result ℕ Unread). ReadOn image list (parts_at image list (take count ps)) (read_word (says_of list) read (word b w)) e ps' (ended_in count b y)) (sym z)
              (record {
                parted = record { sized = sized; few = omega (arith, s.few); within = λ j y. let t : count + k ≡ j = cc in rw (sym t) (within_both k u) };
                says = ap finished (ap (parts_at image list) (joined k) ∙ (map-append (part_at image list) (take count ps) (take k ps₂) ∙ ap (λ (l : List Piece). parts_at image list (take count ps) ++ l) (rule_parts image list ok (take k ps₂) u)))
                    ∙ sym (ap (after (parts_at image list (take count ps))) (word_is ∙ ap (λ (y : Result ℕ Unread). in_name b (reading_of image ps₂ y)) z));
              })
          by (Err (Uncovered i)) z =
              let f : i ≤ length w = subst (EndsBy (length w)) z placed.few in
              subst (λ (y : Result ℕ Unread). ReadOn image list (parts_at image list (take count ps)) (read_word (says_of list) read (word b w)) e ps' (ended_in count b y)) (sym z)
              (record {
                parted = record { sized = sized; few = omega arith; within = λ j y. absurd (not_rules y) };
                says = sym (ap (after (parts_at image list (take count ps))) (word_is ∙ ap (λ (y : Result ℕ Unread). in_name b (reading_of image ps₂ y)) z));
              })
          by (Err BadTables) z =
              subst (λ (y : Result ℕ Unread). ReadOn image list (parts_at image list (take count ps)) (read_word (says_of list) read (word b w)) e ps' (ended_in count b y)) (sym z)
              (record {
                parted = record { sized = sized; few = tt; within = λ j y. absurd (not_rules_16 y) };
                says = sym (ap (after (parts_at image list (take count ps))) (word_is ∙ ap (λ (y : Result ℕ Unread). in_name b (reading_of image ps₂ y)) z));
              })
