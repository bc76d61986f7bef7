-- What holds of a run with the watchers that were put into a list one after another holds of those of the program.
use Rattle.std.proofs.Common.{◌≡◌, ◌∙◌, Bool, true, false, List, [], ◌∷◌, ◌++◌, map, None, Result, Ok, Err, if◌then◌else◌, refl, sym, ap, subst}
use Rattle.std.proofs.lemmas.Bool.{false≢true}
use Rattle.std.proofs.lemmas.List.{map-append}
use Rattle.std.specs.Result.{is_ok, is_err}
use Rattle.sil_watch.specs.Occupancy.{no_hours, occupancy_value}
use Rattle.sil_watch.specs.Peak.{peak_value}
use Rattle.sil_watch.specs.Series.{series_value}
use Rattle.sil_watch.specs.Watching.{WatcherValue}
use Rattle.sil_top.specs.Program.{program_watchers}

pub ok_where_no_error : {A E : Type 0} (r : Result A E) → is_err r ≡ false → is_ok r ≡ true
ok_where_no_error (Ok x) e = refl
ok_where_no_error (Err x) e = absurd (false≢true (sym e))

-- a box is put into a list, and its watcher is w
pub record IsPut {B : Type 0} (value : B → WatcherValue) (before after : List B) (w : WatcherValue) : Type 0 where
  pub box : B
  pub ok : Bool
  pub fits : ok ≡ true
  pub items : after ≡ (if ok then before ++ box ∷ [] else before)
  pub is : value box ≡ w

one_more : {B : Type 0} (value : B → WatcherValue) (before after : List B) (ws : List WatcherValue) (w : WatcherValue)
    → map value before ≡ ws → IsPut value before after w → map value after ≡ ws ++ w ∷ []
one_more value before after ws w so_far put =
    ap (map value) (put.items ∙ ap (λ (x : Bool). if x then before ++ put.box ∷ [] else before) put.fits) ∙ map-append value before (put.box ∷ [])
    ∙ ap (λ (vs : List WatcherValue). vs ++ value put.box ∷ []) so_far ∙ ap (λ (v : WatcherValue). ws ++ v ∷ []) put.is

-- three boxes are put into an empty list, those of the program
pub with_three : {B : Type 0} (value : B → WatcherValue) (P : List WatcherValue → Type 0) (none one two three : List B)
    → P (map value three) → none ≡ [] → IsPut value none one (series_value []) → IsPut value one two (peak_value None)
    → IsPut value two three (occupancy_value no_hours) → P program_watchers
with_three value P none one two three holds empty series peak occupancy =
    let first : map value one ≡ series_value [] ∷ [] = one_more value none one [] (series_value []) (ap (map value) empty) series in
    let second : map value two ≡ series_value [] ∷ peak_value None ∷ [] = one_more value one two (series_value [] ∷ []) (peak_value None) first peak in
    let third : map value three ≡ program_watchers = one_more value two three (series_value [] ∷ peak_value None ∷ []) (occupancy_value no_hours) second occupancy in
    subst P third holds
