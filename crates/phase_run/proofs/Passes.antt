-- Beats after beats: what they pass, one by one and in blocks.
use Rattle.std.proofs.Common.{◌≡◌, ℕ, ◌+◌, ◌-◌, ◌*◌, ◌/◌, ◌%◌, ◌^◌, ◌<◌, ◌≤◌, List, length, sum, slice_index, refl, ap, ◌∙◌, arith}
use Rattle.std.proofs.Math.Nat.{mul-le-mul_left, mul-le-mul_right, pow-suc, pow-zero}
use Rattle.std.proofs.lemmas.Nat.{pow_pos, div-add-mod'}
use mathlib.Core.Path.{fun_ext}
use Rattle.sil_fraction.specs.Fraction.{◌+ℚ◌, ◌≤ℚ◌}
use Rattle.sil_fraction.proofs.Laws.{zero-add}
use Rattle.sil_model.specs.Series.{Values}
use Rattle.sil_model.specs.Budget.{lumped_events_of, beat_loss_of}
use Rattle.sil_model.specs.Sizes.{states_of}
use Rattle.sil_model.specs.declared.parts.Subsystem.{Subsystem}
use Rattle.lumped_laws.specs.ValueLists.{beat_list, mean_list}
use Rattle.vector_laws.specs.Vectors.{weigh}
use Rattle.vector_laws.specs.Block.{IsAfter, IsDwelt}
use Rattle.vector_laws.proofs.Phases.{after_none, dwelt_none, after_more, dwelt_more}
use Rattle.beat_ladder.specs.Losses.{block_loss, block_dwell_loss, block_products}
use Rattle.product_chain.specs.Kept.{ChainValue}
use Rattle.uniformise.specs.Beat.{hours_of_beat, IsStep, tick_products, vector_loss, dwell_loss, beat_products}
use Rattle.phase_run.specs.Passes.{PassesBy, Passes, beat_loss_in_blocks, block_beat_loss, beat_products_in_blocks}

-- of any step
module _ (B : (Values ℕ → Values ℕ) → Type 0) where
  -- no beat
  pub passes_none : (order loss : ℕ) (v old : List ℕ) → PassesBy B order loss 0 v v old old
  passes_none order loss v old = record {
    size = refl;
    ended = after_none B order v;
    dwelt = dwelt_none B order v old;
    kept = omega arith;
    lack = omega arith;
    dwell_kept = omega arith;
    dwell_lack = omega arith;
    grows = λ k h. (omega arith, omega arith);
  }

  -- what a dwell lacks after m beats and n more, of which each loses B of the vector
  lacks_more : (s u x y z m n b : ℕ) → s ≤ u + m * b → x + m * s ≤ y + m * m * b → y + n * u ≤ z + n * n * b
      → x + (m + n) * s ≤ z + (m + n) * (m + n) * b
  lacks_more s u x y z m n b lack first second = omega (arith, mul-le-mul_left n lack, first, second)

  -- m beats and n more
  pub passes_more : (order loss m n : ℕ) (v u w old mid new : List ℕ) → PassesBy B order loss m v u old mid → PassesBy B order loss n u w mid new
      → PassesBy B order loss (m + n) v w old new
  passes_more order loss m n v u w old mid new first second = record {
    size = second.size ∙ first.size;
    ended = after_more B order m n v u first.ended w second.ended;
    dwelt = dwelt_more B order m n v u first.ended old mid new first.dwelt second.dwelt;
    kept = omega (arith, first.kept, second.kept);
    lack = omega (arith, first.lack, second.lack);
    dwell_kept = omega (arith, first.dwell_kept, second.dwell_kept, mul-le-mul_left n first.kept);
    dwell_lack = lacks_more (sum v) (sum u) (sum old) (sum mid) (sum new) m n loss first.lack first.dwell_lack second.dwell_lack;
    grows = λ k h.
        let inside : k < length mid = omega (arith, first.size) in (
          omega (arith, (first.grows k h).0, (second.grows k inside).0),
          omega (arith, (first.grows k h).1, (second.grows k inside).1),
        );
  }

  -- a greater order, and a greater bound on what a beat loses
  pub passes_raised : (order above loss most m : ℕ) (v u old new : List ℕ) → order ≤ above → loss ≤ most → PassesBy B order loss m v u old new
      → PassesBy B above most m v u old new
  passes_raised order above loss most m v u old new higher greater p = record {
    size = p.size;
    ended = record { weighed = λ T t b N within f. p.ended.weighed T t b N (omega arith) f };
    dwelt = record { weighed = λ T t b N within f. p.dwelt.weighed T t b N (omega arith) f };
    kept = p.kept;
    lack = omega (arith, p.lack, mul-le-mul_left m greater);
    dwell_kept = p.dwell_kept;
    dwell_lack = omega (arith, p.dwell_lack, mul-le-mul_left (m * m) greater);
    grows = p.grows;
  }

square : (order : ℕ) → order ^ 2 ≡ order * order
square order =
    let none : order ^ 0 ≡ 1 = pow-zero order in
    let one : order ^ 1 ≡ order = omega (arith, pow-suc order 0, ap (λ n. n * order) none) in
    omega (arith, pow-suc order 1, ap (λ n. n * order) one)

-- a beat loses of either no more than the budget has for it
vector_loss_within : (us : List Subsystem) (order : ℕ) → vector_loss us order ≤ beat_loss_of us order
unfolding beat_loss_of
vector_loss_within us order = omega arith

dwell_loss_within : (us : List Subsystem) (order : ℕ) → dwell_loss us order ≤ beat_loss_of us order
unfolding beat_loss_of
dwell_loss_within us order = omega (arith, square order)

-- and so does a beat of a block
pub block_loss_within : (us : List Subsystem) (order : ℕ) → 16 ≤ order → block_beat_loss us ≤ beat_loss_of us order
unfolding beat_loss_of
block_loss_within us order least =
    let many : 256 ≤ order * order = omega (arith, mul-le-mul_left order least) in
    omega (arith, square order, many)

module _ (c : ChainValue) (order : ℕ) (v after old new : List ℕ) (size : length new ≡ length old)
    (encloses : (N : ℕ) → order ≤ N → (f : Values ℕ) → weigh after f ≤ℚ weigh v (beat_list c.of.subsystems N (hours_of_beat c) f))
    (dwells : (N : ℕ) → order ≤ N → (f : Values ℕ) → weigh new f ≤ℚ weigh old f +ℚ weigh v (mean_list c.of.subsystems N (hours_of_beat c) f)) where
  -- one beat is one of them
  pub passes_beat : sum after ≤ sum v → sum v ≤ sum after + vector_loss c.of.subsystems order → sum new ≤ sum old + sum v
      → sum old + sum v ≤ sum new + dwell_loss c.of.subsystems order
      → ((k : ℕ) → k < length old → (slice_index old k ≤ slice_index new k) × (slice_index new k ≤ slice_index old k + 2 ^ 48))
      → Passes c order (beat_loss_of c.of.subsystems order) 1 v after old new
  passes_beat kept lack dwell_kept dwell_lack grows = record {
    size = size;
    ended = record { weighed = λ T t b N within f. rw b (encloses N within f) };
    dwelt = record {
      weighed = λ T t b N within f.
          rw (b, ap (weigh v) (fun_ext (λ i. zero-add (mean_list c.of.subsystems N (hours_of_beat c) f i)))) (dwells N within f);
    };
    kept = kept;
    lack = omega (arith, lack, vector_loss_within c.of.subsystems order);
    dwell_kept = omega arith;
    dwell_lack = omega (arith, dwell_lack, dwell_loss_within c.of.subsystems order);
    grows = λ k h. ((grows k h).0, omega (arith, (grows k h).1));
  }

-- what a block of m beats loses, by its beats
block_lacks : (m loss size : ℕ) → 0 < m → block_loss m loss size ≤ m * (loss + size + 200)
block_lacks m loss size some = let one : 1 ≤ m = omega arith in omega (arith, mul-le-mul_right size one)

block_dwell_lacks : (m loss size : ℕ) → 0 < m → block_dwell_loss m loss size ≤ m * m * (loss + size + 200)
block_dwell_lacks m loss size some =
    let one : 1 ≤ m = omega arith in
    let more : m * (m + 1) ≤ 2 * (m * m) = omega (arith, mul-le-mul_left m one) in
    let pairs : m * (m + 1) / 2 ≤ m * m = omega (arith, more) in
    let many : 1 ≤ m * m = omega (arith, mul-le-mul_left m one) in
    omega (arith, mul-le-mul_right loss pairs, mul-le-mul_right size many)

-- a block of beats is so many of them
module _ (B : (Values ℕ → Values ℕ) → Type 0) (loss size e : ℕ) (v after old new : List ℕ) where
  pub passes_block : length new ≡ length old → IsAfter B 16 (2 ^ e) v after → IsDwelt B 16 (2 ^ e) v old new → sum after ≤ sum v
      → sum v ≤ sum after + block_loss (2 ^ e) loss size
      → sum new ≤ sum old + 2 ^ e * sum v
      → sum old + 2 ^ e * sum v ≤ sum new + block_dwell_loss (2 ^ e) loss size
      → ((k : ℕ) → k < length old → (slice_index old k ≤ slice_index new k) × (slice_index new k ≤ slice_index old k + 2 ^ e * 2 ^ 48))
      → PassesBy B 16 (beat_loss_in_blocks loss size) (2 ^ e) v after old new
  passes_block long ends dwelt kept lack dwell_kept dwell_lack grows = record {
    size = long;
    ended = ends;
    dwelt = dwelt;
    kept = kept;
    lack = omega (arith, lack, block_lacks (2 ^ e) loss size (pow_pos e));
    dwell_kept = dwell_kept;
    dwell_lack = omega (arith, dwell_lack, block_dwell_lacks (2 ^ e) loss size (pow_pos e));
    grows = grows;
  }

-- and makes no more products
pub block_products_within : (products size e : ℕ) → block_products (2 ^ e) products size ≤ 2 ^ e * beat_products_in_blocks products size
block_products_within products size e = omega (arith, mul-le-mul_right size (pow_pos e))

-- as many as by order 16
pub products_of_beat : (us : List Subsystem) (size : ℕ) → size ≤ states_of us → beat_products_in_blocks (tick_products us) size ≤ beat_products us 16
products_of_beat us size few = omega (arith, few)

-- the products of beats by order 16 are no more than by a greater one
pub products_within : (us : List Subsystem) (order : ℕ) → 16 ≤ order → beat_products us 16 ≤ beat_products us order
products_within us order least =
    let ticks : 16 * (lumped_events_of us + 1) ≤ order * (lumped_events_of us + 1) = mul-le-mul_right (lumped_events_of us + 1) least in
    mul-le-mul_left (states_of us) (omega (arith, ticks, least))

-- products of beats and of more beats
pub counted_more : (a b s m n A : ℕ) → s ≤ a + m * A → b ≤ s + n * A → b ≤ a + (m + n) * A
counted_more a b s m n A first second = omega (arith, first, second)

-- as many beats as rungs of p beats pass, and what is left
pub used : (left b p : ℕ) → b ≡ p → left / b * p + left % b ≡ left
used left b p e = rw (← e) (div-add-mod' left b)

-- blocks of beats, and the beats that are left
module _ (c : ChainValue) (order beats left : ℕ) (least : 16 ≤ order) (few : left ≤ beats) where
  pub passes_joined : (v u w old mid new : List ℕ) → Passes c 16 (block_beat_loss c.of.subsystems) (beats - left) v u old mid
      → Passes c order (beat_loss_of c.of.subsystems order) left u w mid new → Passes c order (beat_loss_of c.of.subsystems order) beats v w old new
  passes_joined v u w old mid new blocks rest =
      let all : (beats - left) + left ≡ beats = omega arith in
      rw all at
      (passes_more (IsStep c) order (beat_loss_of c.of.subsystems order) (beats - left) left v u w old mid new
      (passes_raised (IsStep c) 16 order (block_beat_loss c.of.subsystems) (beat_loss_of c.of.subsystems order) (beats - left) v u old mid least
      (block_loss_within c.of.subsystems order least) blocks) rest)

  pub products_joined : (a s b : ℕ) → s ≤ a + (beats - left) * beat_products c.of.subsystems 16
      → b ≤ s + left * beat_products c.of.subsystems order → b ≤ a + beats * beat_products c.of.subsystems order
  products_joined a s b blocks rest =
      let all : (beats - left) + left ≡ beats = omega arith in
      rw all at
      (counted_more a b s (beats - left) left (beat_products c.of.subsystems order)
      (omega (arith, blocks, mul-le-mul_left (beats - left) (products_within c.of.subsystems order least))) rest)
