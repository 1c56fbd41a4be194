-- From the calls that are made to the text that an input comes to.
--   key-early, key-read, key-given     the verdict on an order: modulus and terms', read's, or that on the rows
--   read-room                          the words lent are enough for every polynomial that is not too high
--   rows-refused, rows-given           the text of rows: refusal 3, or what find gives
--   typed-early, typed-refused, typed-rows   the text of an order, after each of its calls
--   line-none, line-asked              what the first line's answer says
--   key-long, key-none, key-asked      the text of an input: 17, or that of its order
--   keyed-all                          a text written is handed over as far as it goes
--   keyed-fits, keyed-never, keyed-as  an accepted key is within its room; `text_room` bytes are always enough
--   one_typed, one_key, keyed-only     each order and each input come to exactly one text; so the call has one outcome only
--   key-cut                            the first bytes of an input that is too long come to its text
-- Assumes nothing.
use Prim.Native.Nat.{ℕ, ◌+◌, ◌*◌, ◌≤◌, ◌<◌}
use native.Mathlib.Nat.{mul-le-mul}
use native.Mathlib.Omega.{arith}
use mathlib.Core.Path.{◌≡◌, refl, sym, ap, ap₂, subst, ◌∙◌}
use mathlib.Core.Bool.{true, false, ◌||◌}
use mathlib.Core.List.{List, [], ◌∷◌, ◌++◌}
use borrow.Author.Tests.{ltb-false}
use lib.ListN.{length, take, drop}
use lib.Seq.{take_at, length-take-le}
use Rattle.numbers.specs.Words.{outside, over}
use Rattle.numbers.specs.Refusals.{check, judge, refusal, Outcome, accepted, refused, outcome_after, written, modulus_checks, Row, Verdict, Pass, Refuse}
use Rattle.numbers.specs.One.{One}
use Rattle.numbers.proofs.OneLaws.{one_same}
use Rattle.numbers.proofs.RefusalsLaws.{after-pass, after-refuse, pass-parts, pass-check, take-check, skip-check, unlike, accepted-pass, neither, inside}
use Rattle.rows.proofs.RowsLaws.{length-table}
use Rattle.sheet.specs.Sheet.{Given, whole_of}
use Rattle.sheet.proofs.HoldsLaws.{whole-reach}
use Rattle.open.specs.Open.{needed}
use Rattle.open.specs.Find.{with_roots, find_checks, find_verdict}
use Rattle.open.proofs.OpeningLaws.{GivenReady}
use Rattle.open.proofs.FindLaws.{find-ready}
use Rattle.job.specs.Limits.{most_degree, most_width}
use Rattle.text.specs.Limits.{text_room}
use Rattle.text.specs.internal.Rooms.{sheet_room, refusal_room}
use Rattle.text.specs.Text.{refused_text}
use Rattle.text.specs.internal.Putting.{Puts}
use Rattle.text.proofs.TextLaws.{puts-as}
use Rattle.text.specs.declared.Profile.TheVariants.{Factors}
use Rattle.listing.specs.Listing.{TextOf, room_verdict}
use Rattle.listing.specs.internal.Writing.{rooted_verdict, Wrote, WroteGiven}
use Rattle.listing.proofs.ListingLaws.{find-same, text-refused, one-text, put_first, put-fits, handed-fits, handed-never}
use Rattle.formula.specs.Formula.{Sum, first, more, Reading, reads, unreadable}
use Rattle.formula.specs.Grammar.{Derives}
use Rattle.read.specs.Value.{degree, high, term_high, sum_value, sum_high, top_row}
use Rattle.formula.specs.internal.Scan.{bottom, lead, scan}
use Rattle.formula.proofs.FoundLaws.{scan-derives}
use Rattle.formula.proofs.CompleteLaws.{one-reading}
use Rattle.read.specs.Read.{reading_value, reading_high, read_degree, read_words, read_checks, ReadOf}
use Rattle.typed.specs.Limits.{longest_input, rows_lent}
use Rattle.typed.specs.Order.{Order, asks, none, unended, Orders}
use Rattle.typed.specs.Key.{typed_given, order_checks, given_checks, key_verdict, TypedKey, KeyOf, IsKey, Keyed}
use Rattle.typed.specs.internal.Line.{order_of}
use Rattle.typed.specs.internal.Writing.{given_verdict, rows_given, WroteRows, WroteTyped, WroteKey}
use Rattle.typed.proofs.OrderLaws.{order_is, long-none, same-order, one-order}

-- the verdict on an order
module _ (p N size : ℕ) (q : Reading) where
  pub key-early : (r : Row) → judge (order_checks p N) ≡ Refuse r → key_verdict p N size q ≡ Refuse r
  unfolding key_verdict
  key-early r e = after-refuse (order_checks p N) _ r e

  module _ (early : judge (order_checks p N) ≡ Pass) where
    pub key-read : (r : Row) → judge (read_checks p N size q rows_lent) ≡ Refuse r → key_verdict p N size q ≡ Refuse r
    unfolding key_verdict
    key-read r e =
        after-pass (order_checks p N) _ early
        ∙ after-refuse (read_checks p N size q rows_lent) (given_checks (typed_given p N q)) r e

    pub key-given : judge (read_checks p N size q rows_lent) ≡ Pass → key_verdict p N size q ≡ given_verdict (typed_given p N q)
    unfolding key_verdict given_verdict
    key-given e =
        after-pass (order_checks p N) _ early
        ∙ after-pass (read_checks p N size q rows_lent) (given_checks (typed_given p N q)) e

  key-ready : key_verdict p N size q ≡ Pass → GivenReady (with_roots (typed_given p N q))
  unfolding key_verdict find_verdict
  key-ready e =
      let g = typed_given p N q in
      let a = (pass-parts (order_checks p N) (read_checks p N size q rows_lent ++ given_checks g) e).1 in
      let b = (pass-parts (read_checks p N size q rows_lent) (given_checks g) a).1 in
      (find-ready g (needed (with_roots g)) (pass-check (check 3 (outside 1 most_degree g.D) 0) (find_checks g (needed (with_roots g))) b).1).0

-- the words lent are enough
sum_low : (p N : ℕ) (s : Sum) → sum_high p N s ≡ false → degree N (sum_value p s) ≤ 32
unfolding sum_high
sum_low p N (first l t) e = ltb-false 32 (degree N (sum_value p (first l t))) (neither (term_high p N t) (high N (sum_value p (first l t))) e).1
sum_low p N (more s σ t) e = ltb-false 32 (degree N (sum_value p (more s σ t))) (neither (sum_high p N s || term_high p N t) (high N (sum_value p (more s σ t))) e).1

read_low : (p N : ℕ) (q : Reading) → reading_high p N q ≡ false → read_degree p N q ≤ 32
unfolding top_row
read_low p N (reads s) e = sum_low p N s e
read_low p N unreadable e = omega arith

pub read-room : (p N : ℕ) (q : Reading) → N ≤ most_width → reading_high p N q ≡ false → (read_degree p N q + 1) * N ≤ rows_lent
read-room p N q n e = let l = read_low p N q e in let z : read_degree p N q + 1 ≤ 33 = omega arith in mul-le-mul z n

-- the text of rows
module _ (p d n : ℕ) (rows : List ℕ) where
  pub rows-refused : {out new : List ℕ} {at : ℕ} → outside 1 most_degree d ≡ true → Puts refusal_room (refused_text 3 0) 0 out at new → WroteRows p d n rows out at new
  unfolding given_verdict
  rows-refused e f =
      let g = rows_given p d n rows in
      record {
        text = refused_text 3 0;
        is = text-refused Factors (given_verdict g) (with_roots g) (refusal 3 0) (take-check (check 3 (outside 1 most_degree d) 0) (find_checks g (needed (with_roots g))) e);
        puts = puts-as text_room (refused_text 3 0) f refl (omega arith);
      }

  rows-verdict : outside 1 most_degree d ≡ false → n ≤ most_width → rooted_verdict (rows_given p d n rows) sheet_room ≡ given_verdict (rows_given p d n rows)
  unfolding given_verdict rooted_verdict find_verdict
  rows-verdict e l =
      let g = rows_given p d n rows in
      find-same g sheet_room (inside 1 most_degree d e).1 l refl ∙ sym (skip-check (check 3 (outside 1 most_degree d) 0) (find_checks g (needed (with_roots g))) e)

  pub rows-given : {out new : List ℕ} {at : ℕ} → outside 1 most_degree d ≡ false → n ≤ most_width → WroteGiven Factors (rows_given p d n rows) out at new → WroteRows p d n rows out at new
  rows-given {out} {new} {at} e l w = subst (λ (v : Verdict). Wrote Factors v (with_roots (rows_given p d n rows)) out at new) (rows-verdict e l) w

-- the text of an order
told : (v : Verdict) (x n d : ℕ) → ◌≡◌ {A = Outcome ℕ} (refused n d) (outcome_after v x) → v ≡ Refuse (refusal n d)
told Pass x n d e = unlike x n d e
told (Refuse r) x n d e = let a : r.number ≡ n = cc in let b : r.detail ≡ d = cc in ap₂ (λ (i j : ℕ). Refuse (refusal i j)) a b

module _ (p n : ℕ) (typed : List ℕ) where
  typed-line : {out new : List ℕ} {at : ℕ} (q : Reading) → Derives typed q → (r : Row) → key_verdict p n (length typed) q ≡ Refuse r → Puts refusal_room (refused_text r.number r.detail) 0 out at new
      → WroteTyped p n typed out at new
  typed-line q derived r e f = record {
    text = refused_text r.number r.detail;
    is = record { reading = q; derived = derived; is = text-refused Factors (key_verdict p n (length typed) q) (with_roots (typed_given p n q)) r e };
    puts = puts-as text_room (refused_text r.number r.detail) f refl (omega arith);
  }

  pub typed-early : {out new : List ℕ} {at : ℕ} (r : Row) → judge (order_checks p n) ≡ Refuse r → Puts refusal_room (refused_text r.number r.detail) 0 out at new → WroteTyped p n typed out at new
  typed-early r e f = let q = scan (lead bottom) typed in typed-line q (scan-derives typed) r (key-early p n (length typed) q r e) f

  module _ (early : judge (order_checks p n) ≡ Pass) (lent words : List ℕ) (a : Outcome ℕ) (room : length lent ≡ rows_lent) (h : ReadOf p n typed lent a words) where
    read-verdict : judge (read_checks p n (length typed) h.reading (length lent)) ≡ judge (read_checks p n (length typed) h.reading rows_lent)
    read-verdict = ap (λ (k : ℕ). judge (read_checks p n (length typed) h.reading k)) room

    pub typed-refused : {out new : List ℕ} {at : ℕ} (r : Row) → a ≡ refused r.number r.detail → Puts refusal_room (refused_text r.number r.detail) 0 out at new → WroteTyped p n typed out at new
    typed-refused r is f =
        let v = told (judge (read_checks p n (length typed) h.reading (length lent))) (read_degree p n h.reading) r.number r.detail (sym is ∙ h.answers) in
        typed-line h.reading h.derived r (key-read p n (length typed) h.reading early r (sym read-verdict ∙ v)) f

    module _ (d : ℕ) (is : a ≡ accepted d) where
      passed : (judge (read_checks p n (length typed) h.reading (length lent)) ≡ Pass) × (d ≡ read_degree p n h.reading)
      passed = accepted-pass (judge (read_checks p n (length typed) h.reading (length lent))) (read_degree p n h.reading) d (sym is ∙ h.answers)

      words_are : take ((d + 1) * n) words ≡ read_words p n h.reading
      words_are =
          let W = read_words p n h.reading in
          ap (take ((d + 1) * n)) (h.leaves ∙ ap (λ (v : Verdict). written v (over W lent) lent) passed.0)
          ∙ take_at W (drop (length W) lent) ((d + 1) * n)
          (length-table (read_degree p n h.reading + 1) n (reading_value p h.reading).row ∙ ap (λ (k : ℕ). (k + 1) * n) (sym passed.1))

      given_is : rows_given p d n words ≡ typed_given p n h.reading
      given_is = ap (λ (x : List ℕ). whole_of p d n x []) words_are ∙ ap (λ (k : ℕ). whole_of p k n (read_words p n h.reading) []) passed.1

      pub typed-rows : {out new : List ℕ} {at : ℕ} → WroteRows p d n words out at new → WroteTyped p n typed out at new
      typed-rows w =
          let G = typed_given p n h.reading in
          let x = subst (λ (g : Given). TextOf Factors (given_verdict g) (with_roots g) w.text) given_is w.is in
          record {
            text = w.text;
            is = record {
              reading = h.reading;
              derived = h.derived;
              is = subst (λ (v : Verdict). TextOf Factors v (with_roots G) w.text) (sym (key-given p n (length typed) h.reading early (sym read-verdict ∙ passed.0))) x;
            };
            puts = w.puts;
          }

-- terms that pass are few
pub order-terms : (p n : ℕ) → judge (order_checks p n) ≡ Pass → n ≤ most_width
order-terms p n e = (inside 1 most_width n (pass-check (check 4 (outside 1 most_width n) 0) [] (pass-parts (modulus_checks p) (check 4 (outside 1 most_width n) 0 ∷ []) e).1).0).1

-- what the first line's answer says
-- the text of an input
module _ (input : List ℕ) {out new : List ℕ} {at : ℕ} where
  key-line : Orders input none → Puts refusal_room (refused_text 17 0) 0 out at new → WroteKey input out at new
  key-line o f = record {
    text = refused_text 17 0;
    is = record { order = none; ordered = o; is = refl };
    puts = puts-as text_room (refused_text 17 0) f refl (omega arith);
  }

  pub key-long : longest_input < length input → Puts refusal_room (refused_text 17 0) 0 out at new → WroteKey input out at new
  key-long l f = key-line (long-none input l) f

  pub key-none : length input ≤ longest_input → order_of input ≡ none → Puts refusal_room (refused_text 17 0) 0 out at new → WroteKey input out at new
  key-none l e f = key-line (subst (Orders input) e (order_is input l)) f

  pub key-asked : (p n : ℕ) (rest typed : List ℕ) → length input ≤ longest_input → order_of input ≡ asks p n (unended rest) → typed ≡ unended rest → WroteTyped p n typed out at new
      → WroteKey input out at new
  key-asked p n rest typed l e t w = record {
    text = w.text;
    is = record {
      order = asks p n typed;
      ordered = subst (Orders input) (e ∙ ap (asks p n) (sym t)) (order_is input l);
      is = w.is;
    };
    puts = w.puts;
  }

-- a text written is handed over as far as it goes
pub keyed-all : (input zeros bytes : List ℕ) (long : ℕ) → WroteKey input zeros long bytes → (text old new : List ℕ) (a : Outcome ℕ) → text ≡ take long bytes
    → a ≡ outcome_after (room_verdict text old) (length text) → new ≡ written (room_verdict text old) (over text old) old → Keyed input old a new
keyed-all input zeros bytes long w text old new a is e f = record {
  text = text;
  is = subst (IsKey input) (sym (is ∙ put_first w.puts)) w.is;
  short = omega (arith, ap length is, (put-fits w.puts).1);
  answers = e;
  leaves = f;
}

pub keyed-fits : (input old new : List ℕ) (a : Outcome ℕ) (n : ℕ) → a ≡ accepted n → Keyed input old a new → n ≤ length old
keyed-fits input old new a n is h = handed-fits h.text old a h.answers n is

pub keyed-never : {A : Type 0} (input old new : List ℕ) (a : Outcome ℕ) (n d : ℕ) → a ≡ refused n d → text_room ≤ length old → Keyed input old a new → A
keyed-never input old new a n d is room h = handed-never h.text old a h.answers n d is (omega (arith, h.short))

pub keyed-as : (input old new : List ℕ) (a : Outcome ℕ) (n : ℕ) → a ≡ accepted n → Keyed input old a new → Keyed input old (accepted n) new
keyed-as input old new a n is h = subst (λ (x : Outcome ℕ). Keyed input old x new) is h

-- each order and each input come to exactly one text
pub one_typed : (p N : ℕ) (typed : List ℕ) → One (TypedKey p N typed)
one_typed p N typed =
    let q = scan (lead bottom) typed in
    let G = with_roots (typed_given p N q) in
    let t = one-text Factors (key_verdict p N (length typed) q) G (whole-reach p G.D N G.rows G.roots) (key-ready p N (length typed) q) in (
      t.0,
      record {
        is = record { reading = q; derived = scan-derives typed; is = t.1.is };
        only = λ other x. t.1.only other (subst (λ (r : Reading). TextOf Factors (key_verdict p N (length typed) r) (with_roots (typed_given p N r)) other) (one-reading x.reading q typed x.derived (scan-derives typed)) x.is);
      },
    )

one_of : (o : Order) → One (KeyOf o)
one_of (asks p N typed) = one_typed p N typed
one_of none = (refused_text 17 0, record { is = refl; only = λ other x. x })

pub one_key : (input : List ℕ) → One (IsKey input)
one_key input =
    let o = one-order input in
    let t = one_of o.0 in (
      t.0,
      record {
        is = record { order = o.0; ordered = o.1.is; is = t.1.is };
        only = λ other x. t.1.only other (subst (λ (y : Order). KeyOf y other) (o.1.only x.order x.ordered) x.is);
      },
    )

-- so the call has one outcome only
pub keyed-only : (input old : List ℕ) (a a' : Outcome ℕ) (new new' : List ℕ) → Keyed input old a new → Keyed input old a' new' → (a ≡ a') × (new ≡ new')
keyed-only input old a a' new new' x x' =
    let e : x.text ≡ x'.text = one_same (IsKey input) (one_key input) x.text x'.text x.is x'.is in (
      x.answers ∙ ap (λ (t : List ℕ). outcome_after (room_verdict t old) (length t)) e ∙ sym x'.answers,
      x.leaves ∙ ap (λ (t : List ℕ). written (room_verdict t old) (over t old) old) e ∙ sym x'.leaves,
    )

-- the first bytes of an input that is too long come to its text
pub key-cut : (input text : List ℕ) (n : ℕ) → longest_input < n → n ≤ length input → IsKey (take n input) text → IsKey input text
key-cut input text n h l x =
    let e = same-order (take n input) none x.order (long-none (take n input) (let z = length-take-le n input l in omega arith)) x.ordered in
    record { order = none; ordered = long-none input (omega arith); is = subst (λ (o : Order). KeyOf o text) e x.is }
