-- The session that stands at k steps after an accepted begin frame, and what a frame and a load do to it. Assumes nothing.
use mathlib.Core.Bool.{true, false, cond}
use mathlib.Core.List.{List}
use mathlib.Core.Option.{Option, none, some}
use mathlib.Core.Path.{◌≡◌, refl, sym, ◌∙◌}
use Prim.Native.Nat.{ℕ, ◌+◌, ◌≤◌, ◌<◌}
use native.Mathlib.Numerals.{add-one}
use native.Mathlib.Omega.{arith}
use lib.Dec.{eqb}
use lib.IntN.{ℤ}
use lib.ListN.{length, take}
use lib.Seq.{length-take-le}
use borrow.Author.Tests.{le-leb, lt-leb, lt-ltb, le-ltb, eq-eqb, eqb-true, not-true}
use Rattle.weak_orders.specs.Window.{iter, padded}
use Rattle.weak_orders.proofs.Padded.{take-padded}
use Rattle.weak_orders.proofs.Tests.{by_test, says_and, says_itself}
use Rattle.ranking.specs.Counts.{a}
use Rattle.successors.specs.Rules.{rule_of, WeakOrder, step}
use Rattle.universal_cycle.specs.Round.{Tour}
use Rattle.universal_cycle.proofs.Rounds.{universal_cycle}
use Rattle.refusals.specs.declared.Cause.TheVariants.{ShortBuffer}
use Rattle.levels.specs.declared.Setting.{Setting}
use Rattle.frames.specs.Fields.{is_bytes}
use Rattle.frames.specs.Question.{is_question, is_second, kind_in, letter_s, length_in, rule_in, round_number_in, number_in, window_in}
use Rattle.frames.specs.Question.{round_number_ok, reserved_s}
use Rattle.frames.proofs.BeginBytes.{second_header, window_long, frame_back}
use Rattle.frames.proofs.Padding.{unused_padded, padded-take}
use Rattle.level_files.specs.LevelFile.{read_table}
use Rattle.stepper.specs.declared.session.Session.{Session}
use Rattle.stepper.specs.Exchange.{in_second, is_numbered, has_begun, refuse, accept, table_for, version_of, round_in, begun_by, is_again, if_version}
use Rattle.stepper.specs.Exchange.{onward, stepped, same_version, if_begun, step_numbered, step_of, step_frame, handle, with_table, loaded}
use Rattle.stepper.specs.Exchange.{load_levels}
use Rattle.stepper.specs.ExactlyOnce.{Arrival, passes, of_round, steps_in, round_of, is_next, is_retransmission, accepts, cause_at}
use Rattle.stepper.specs.ExactlyOnce.{start_of, window_after, session_at, level_file, next, table_or}
use Rattle.stepper.proofs.Begun.{RoundOk, says_begun, numbered, reserved_parts}
use Rattle.stepper.proofs.Coding.{Again, says_again, setting_back, window_back, fields_back, second_back}
use Rattle.stepper.proofs.Coding.{again_kind, again_reserved}
use Rattle.stepper.proofs.Handling.{Good, begin_again, frame_tests, number_tests}

-- a B or S of the first version has byte 7 zero
pub no_number : (f : List ℕ) → round_number_ok f ≡ true → is_second f ≡ false → round_number_in f ≡ 0
unfolding round_number_ok
no_number f t e = eqb-true (round_number_in f) 0 (rw e at t)

-- so that an S of the first version has the number of the round, where that is of the first version too
unnumbered : (g f : List ℕ) → round_number_ok g ≡ true → is_second f ≡ false → reserved_s f ≡ true →
    same_version (is_second f) (is_second g) ≡ true → eqb (round_number_in f) (round_number_in g) ≡ true
unfolding reserved_s same_version
unnumbered g f t e r v =
    let (n, _) = (says_and (says_itself (round_number_ok f)) (says_itself _)).to r in
    let first = not-true (is_second g) (rw e at v) in
    eq-eqb (round_number_in f) (round_number_in g) (no_number f n e ∙ sym (no_number g t first))

module _ (g : List ℕ) (t : List ℤ) (G : Good g t) where
  pub start_order : WeakOrder (length_in g) (rule_in g) (start_of g)
  unfolding start_of
  start_order = (length-take-le (length_in g) (window_in g) (omega (arith, window_long g G.long, G.round.high)), G.round.form)

  pub listing : Tour (WeakOrder (length_in g) (rule_in g)) (step (rule_of (rule_in g))) (round_of g) (start_of g)
  unfolding round_of
  listing = universal_cycle (rule_in g) G.round.known (length_in g) G.round.low (start_of g) start_order

  pub standing : (k : ℕ) → WeakOrder (length_in g) (rule_in g) (window_after g k)
  unfolding window_after
  standing = listing.kept

  pub start-padded : padded (window_after g 0) ≡ window_in g
  unfolding window_after start_of iter
  start-padded = padded-take (window_in g) (length_in g) (window_long g G.long) G.round.high G.round.unused

  pub windows : (k : ℕ) → take (length_in g) (padded (window_after g k)) ≡ window_after g k
  windows k = take-padded (window_after g k) (length_in g) (standing k).0

  onward_at : (h : List ℤ) (k : ℕ) → onward (session_at g t h k) ≡ session_at g t h (k + 1)
  unfolding onward session_at window_after iter
  onward_at h k = rw (windows k, add-one k)

  second_at : (h : List ℤ) (k : ℕ) → in_second (session_at g t h k) ≡ is_second g
  unfolding in_second session_at
  second_at h k = by_test (is_second g) (λ e. rw e) (λ e. rw e)

  pub begun_at : (h : List ℤ) (k : ℕ) → k ≤ round_of g → has_begun (session_at g t h k) ≡ true
  unfolding session_at round_of round_in is_numbered
  begun_at h k le = (says_begun (session_at g t h k)).of (record {
    flag = refl;
    round = record {
      low = G.round.low;
      high = G.round.high;
      known = G.round.known;
      form = rw (windows k) (standing k).1;
      unused = unused_padded (window_after g k) (length_in g) (standing k).0;
      levels = G.round.levels;
    };
    within = le;
    number = numbered g t (reserved_parts g G.reserved).0;
  })

  -- At the count c a step frame with room for its answer comes to what the count says.
  pub step_handled : (h : List ℤ) (c : ℕ) → c ≤ round_of g → (x : Arrival) → 40 ≤ x.room → kind_in x.frame ≡ letter_s →
      handle (session_at g t h c) x.frame
      ≡ cond (accepts g c x) (stepped (session_at g t h (number_in x.frame))) (refuse (session_at g t h c) (cause_at g c x))
  unfolding handle step_frame step_of if_begun if_version step_numbered accepts is_next is_retransmission steps_in passes of_round cause_at round_of session_at
  step_handled h c le x l kind =
      let f = x.frame in
      rw (kind, begun_at h c le, second_at h c, onward_at h c, le-leb 40 x.room l, le-ltb x.room 40 l)
      (frame_tests (refuse (session_at g t h c)) _ _ _ _ _ (is_second f) (eqb (length f) 40) (is_question f) (reserved_s f)
      (same_version (is_second f) (is_second g)) (eqb (round_number_in f) (round_number_in g)) (unnumbered g f (reserved_parts g G.reserved).0)
      (number_tests (refuse (session_at g t h c)) (session_at g t h) stepped c (number_in f) (a (length_in g)) le))

  -- A load changes the table held, and nothing else.
  load_by : (h : List ℤ) (k : ℕ) (o : Option (List ℤ)) → (loaded (session_at g t h k) o).session ≡ session_at g t (table_or h o) k
  unfolding loaded with_table session_at table_or
  load_by h k (some u) = refl
  load_by h k none = refl

  pub load_at : (h : List ℤ) (k : ℕ) (f : List ℕ) → next (session_at g t h k) (level_file f) ≡ session_at g t (table_or h (read_table f)) k
  unfolding next load_levels
  load_at h k f = load_by h k (read_table f)

  -- The begin frame again, with no step done, changes nothing.
  again_at : (h : List ℤ) → is_bytes g ≡ true → is_second g ≡ true → is_again (session_at g t h 0) g ≡ true
  unfolding begun_by session_at
  again_at h small second =
      let (_, (z₈, z₂₀)) = reserved_parts g G.reserved in
      let whole = frame_back g G.long true t small (second_header g second) G.kind z₈ z₂₀ in
      (says_again (session_at g t h 0) g).of (record {
        begun = (says_begun (session_at g t h 0)).to (begun_at h 0 (omega arith));
        version = rw second;
        done = refl;
        same = sym (rw start-padded whole);
      })

  pub again_handled : (h : List ℤ) → is_bytes g ≡ true → is_second g ≡ true → handle (session_at g t h 0) g ≡ accept (session_at g t h 0)
  again_handled h small second = begin_again (session_at g t h 0) g G.long (again_at h small second)

-- Without room the count does not accept, and the cause is that.
pub short_refused : (g : List ℕ) (c : ℕ) (x : Arrival) → x.room < 40 → (accepts g c x ≡ false) × (cause_at g c x ≡ ShortBuffer)
unfolding accepts is_next is_retransmission steps_in passes cause_at
short_refused g c x l = by_test (eqb (kind_in x.frame) letter_s)
    (λ e. rw (e, lt-leb 40 x.room l, lt-ltb x.room 40 l) (refl, refl))
    (λ e. rw (e, lt-ltb x.room 40 l) (refl, refl))

-- What a begin frame leaves: that of a new round, where the table h is held.
pub anew_at : (g : List ℕ) (h : List ℤ) → Good g (table_for g h) → round_in g h ≡ session_at g (table_for g h) h 0
unfolding round_in session_at
anew_at g h G = rw (start-padded g (table_for g h) G)

-- and that of the round in force again
same_session : (s : Session) {begun version round n rule done : ℕ} {setting : Setting} {window : List ℕ} → s.begun ≡ begun →
    s.version ≡ version → s.round ≡ round → s.n ≡ n → s.rule ≡ rule → s.setting ≡ setting → s.window ≡ window → s.done ≡ done →
    s ≡ record {
      begun = begun;
      version = version;
      round = round;
      n = n;
      rule = rule;
      setting = setting;
      window = window;
      done = done;
      held = s.held;
    }
same_session s e₁ e₂ e₃ e₄ e₅ e₆ e₇ e₈ = rw (← e₁, ← e₂, ← e₃, ← e₄, ← e₅, ← e₆, ← e₇, ← e₈)

same_round : {n n' rule rule' : ℕ} {w w' : List ℕ} {u u' : Setting} → n ≡ n' → rule ≡ rule' → w ≡ w' → u ≡ u' →
    RoundOk n rule w u → RoundOk n' rule' w' u'
same_round e₁ e₂ e₃ e₄ r = rw (← e₁, ← e₂, ← e₃, ← e₄) r

module _ (s : Session) (g : List ℕ) (long : length g ≡ 40) (x : Again s g) where
  pub again_good : Good g s.setting.table
  again_good =
      let (n, rule, _) = fields_back s g long x in
      record {
        long = long;
        kind = again_kind s g long x;
        reserved = again_reserved s g long x;
        round = same_round n rule (window_back s g long x) (setting_back s g long x) x.begun.round;
      }

  pub again_from : s ≡ session_at g s.setting.table s.held 0
  unfolding session_at
  again_from =
      let (n, rule, round) = fields_back s g long x in
      let version : s.version ≡ version_of (is_second g) = x.version ∙ rw (second_back s g long x) in
      let window = window_back s g long x ∙ sym (start-padded g s.setting.table again_good) in
      same_session s x.begun.flag version round n rule (setting_back s g long x) window x.done
