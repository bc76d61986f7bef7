-- What an occupancy adds up.
use Rattle.std.proofs.Common.{◌≡◌, ◌∙◌, ℕ, ◌+◌, ◌-◌, ◌^◌, min, List, [], ◌∷◌, map, refl, sym, ap, arith, add-zero, zero-add}
use Rattle.std.specs.Prelude.{slice_index, slice_set, ◌==◌, if◌then◌else◌}
use Rattle.std.specs.List.{sum_by}
use Rattle.std.proofs.lemmas.List.Sums.{sum_by-cons}
use Rattle.sil_bands.proofs.Bands.{one_band, one_band_law}
use Rattle.sil_bands.specs.BandOf.{place_of}
use Rattle.sil_model.specs.Bands.{IsBandOf, pfd_edge}
use Rattle.sil_model.specs.declared.answers.Band.{Band}
use Rattle.sil_model.specs.declared.answers.Band.TheVariants.{Beyond4, Sil4, Sil3, Sil2, Sil1, NoSil, Undecided}
use Rattle.sil_watch.specs.Occupancy.{bands, band_of_mean, capped, with_hours, occupancy_value, hours_in, HoursAddUp}
use Rattle.sil_watch.specs.Watching.{fold_of, fed_with}
use Rattle.sil_watch.specs.declared.record.PhaseRecord.{PhaseRecord}

-- the hours of a record, put at the place of the band of its mean
hours-put : (hours : List ℕ) (r : PhaseRecord) (inside : List ℕ) (band : Band) (place more : ℕ) → inside ≡ hours → IsBandOf pfd_edge r.mean.lo r.mean.hi band → place ≡ place_of band
    → more ≡ min (slice_index inside place + r.hours) (2 ^ 64 - 1) → slice_set inside place more ≡ with_hours hours r
hours-put hours r inside band place more same is at e =
    let one : band ≡ band_of_mean r = one_band pfd_edge r.mean.lo r.mean.hi band (band_of_mean r) is (one_band_law.pfd r.mean.lo r.mean.hi) in
    let there : place ≡ place_of (band_of_mean r) = at ∙ ap place_of one in
    ap (slice_set inside place) e ∙ ap (λ (p : ℕ). slice_set inside p (capped (slice_index inside p + r.hours))) there
    ∙ ap (λ (hs : List ℕ). slice_set hs (place_of (band_of_mean r)) (capped (slice_index hs (place_of (band_of_mean r)) + r.hours))) same

-- one record more
pub hours-more : (hours : List ℕ) (r : PhaseRecord) (inside : List ℕ) (band : Band) (place more : ℕ) → inside ≡ hours → IsBandOf pfd_edge r.mean.lo r.mean.hi band → place ≡ place_of band
    → more ≡ min (slice_index inside place + r.hours) (2 ^ 64 - 1) → occupancy_value (slice_set inside place more) ≡ fed_with (r ∷ []) (occupancy_value hours)
unfolding fold_of
hours-more hours r inside band place more same is at e = ap (λ (s : List ℕ). occupancy_value s) (hours-put hours r inside band place more same is at e)

-- the hours of records, band by band

pub seven : (a b c d e f g a' b' c' d' e' f' g' : ℕ) → a ≡ a' → b ≡ b' → c ≡ c' → d ≡ d' → e ≡ e' → f ≡ f' → g ≡ g'
    → ◌≡◌ {A = List ℕ} (a ∷ b ∷ c ∷ d ∷ e ∷ f ∷ g ∷ []) (a' ∷ b' ∷ c' ∷ d' ∷ e' ∷ f' ∷ g' ∷ [])
seven a b c d e f g a' b' c' d' e' f' g' p q r s t u v = cc

-- what a record with this band adds to the hours of each
abbrev share : Band → ℕ → Band → ℕ
share of hours band = if place_of of == place_of band then hours else 0

nothing : (x : ℕ) → capped x ≡ capped (x + 0)
nothing x = ap capped (sym (add-zero x))

something : (x h : ℕ) → capped (capped x + h) ≡ capped (x + h)
something x h = omega arith

module _ (f : Band → ℕ) (h : ℕ) where
  put_one : (of : Band) → slice_set (map (λ b. capped (f b)) bands) (place_of of) (capped (slice_index (map (λ b. capped (f b)) bands) (place_of of) + h))
      ≡ map (λ b. capped (f b + share of h b)) bands
  put_one Beyond4 = seven _ _ _ _ _ _ _ _ _ _ _ _ _ _ (something (f Beyond4) h) (nothing _) (nothing _) (nothing _) (nothing _) (nothing _) (nothing _)
  put_one Sil4 = seven _ _ _ _ _ _ _ _ _ _ _ _ _ _ (nothing _) (something (f Sil4) h) (nothing _) (nothing _) (nothing _) (nothing _) (nothing _)
  put_one Sil3 = seven _ _ _ _ _ _ _ _ _ _ _ _ _ _ (nothing _) (nothing _) (something (f Sil3) h) (nothing _) (nothing _) (nothing _) (nothing _)
  put_one Sil2 = seven _ _ _ _ _ _ _ _ _ _ _ _ _ _ (nothing _) (nothing _) (nothing _) (something (f Sil2) h) (nothing _) (nothing _) (nothing _)
  put_one Sil1 = seven _ _ _ _ _ _ _ _ _ _ _ _ _ _ (nothing _) (nothing _) (nothing _) (nothing _) (something (f Sil1) h) (nothing _) (nothing _)
  put_one NoSil = seven _ _ _ _ _ _ _ _ _ _ _ _ _ _ (nothing _) (nothing _) (nothing _) (nothing _) (nothing _) (something (f NoSil) h) (nothing _)
  put_one Undecided = seven _ _ _ _ _ _ _ _ _ _ _ _ _ _ (nothing _) (nothing _) (nothing _) (nothing _) (nothing _) (nothing _) (something (f Undecided) h)

-- hours of one record more, and of the others
hours-cons : (r : PhaseRecord) (rs : List PhaseRecord) (b : Band) → hours_in (r ∷ rs) b ≡ share (band_of_mean r) r.hours b + hours_in rs b
hours-cons r rs b = sum_by-cons (λ (s : PhaseRecord). share (band_of_mean s) s.hours b) r rs

added : (f : Band → ℕ) (rs : List PhaseRecord) → fold_of with_hours (map (λ b. capped (f b)) bands) rs ≡ map (λ b. capped (f b + hours_in rs b)) bands
unfolding fold_of
added f [] = seven _ _ _ _ _ _ _ _ _ _ _ _ _ _ (nothing _) (nothing _) (nothing _) (nothing _) (nothing _) (nothing _) (nothing _)
added f (r ∷ rs) =
    let next : (b : Band) → capped (f b + share (band_of_mean r) r.hours b + hours_in rs b) ≡ capped (f b + hours_in (r ∷ rs) b)
    = λ (b : Band). ap capped (let e = hours-cons r rs b in omega arith) in
    ap (λ (s : List ℕ). fold_of with_hours s rs) (put_one f r.hours (band_of_mean r))
    ∙ added (λ (b : Band). f b + share (band_of_mean r) r.hours b) rs
    ∙ seven _ _ _ _ _ _ _ _ _ _ _ _ _ _ (next Beyond4) (next Sil4) (next Sil3) (next Sil2) (next Sil1) (next NoSil) (next Undecided)

none : (rs : List PhaseRecord) (b : Band) → capped (0 + hours_in rs b) ≡ capped (hours_in rs b)
none rs b = ap capped (zero-add (hours_in rs b))

sum_of_seven : (f : Band → ℕ) → sum_by f bands ≡ f Beyond4 + f Sil4 + f Sil3 + f Sil2 + f Sil1 + f NoSil + f Undecided
sum_of_seven f = omega arith

-- each record has one share
one_share : (of : Band) (h a b c d e f g a' b' c' d' e' f' g' : ℕ) → a ≡ share of h Beyond4 + a' → b ≡ share of h Sil4 + b' → c ≡ share of h Sil3 + c' → d ≡ share of h Sil2 + d'
    → e ≡ share of h Sil1 + e' → f ≡ share of h NoSil + f' → g ≡ share of h Undecided + g' → a + b + c + d + e + f + g ≡ h + (a' + b' + c' + d' + e' + f' + g')
one_share Beyond4 h a b c d e f g a' b' c' d' e' f' g' p q r s t u v = omega arith
one_share Sil4 h a b c d e f g a' b' c' d' e' f' g' p q r s t u v = omega arith
one_share Sil3 h a b c d e f g a' b' c' d' e' f' g' p q r s t u v = omega arith
one_share Sil2 h a b c d e f g a' b' c' d' e' f' g' p q r s t u v = omega arith
one_share Sil1 h a b c d e f g a' b' c' d' e' f' g' p q r s t u v = omega arith
one_share NoSil h a b c d e f g a' b' c' d' e' f' g' p q r s t u v = omega arith
one_share Undecided h a b c d e f g a' b' c' d' e' f' g' p q r s t u v = omega arith

together : (rs : List PhaseRecord) → sum_by (hours_in rs) bands ≡ sum_by (λ (r : PhaseRecord). r.hours) rs
together [] = refl
together (r ∷ rs) =
    let cons = hours-cons r rs in
    sum_of_seven (hours_in (r ∷ rs))
    ∙ one_share (band_of_mean r) r.hours _ _ _ _ _ _ _ _ _ _ _ _ _ _ (cons Beyond4) (cons Sil4) (cons Sil3) (cons Sil2) (cons Sil1) (cons NoSil) (cons Undecided)
    ∙ ap (λ (n : ℕ). r.hours + n) (sym (sum_of_seven (hours_in rs)) ∙ together rs) ∙ sym (sum_by-cons (λ (q : PhaseRecord). q.hours) r rs)

pub hours_add_up : HoursAddUp
hours_add_up = record {
  each = λ rs. added (λ (b : Band). 0) rs ∙ seven _ _ _ _ _ _ _ _ _ _ _ _ _ _ (none rs Beyond4) (none rs Sil4) (none rs Sil3) (none rs Sil2) (none rs Sil1) (none rs NoSil) (none rs Undecided);
  all = together;
}
