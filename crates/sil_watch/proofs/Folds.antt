-- Records that are fed one after another.
use Rattle.std.proofs.Common.{◌≡◌, ℕ, Bool, true, false, List, [], ◌∷◌, ◌++◌, map, refl, sym, ap, ◌∙◌}
use Rattle.sil_watch.specs.Watching.{WatcherValue, fold_of, fed_with, is_asked_of, fed_of}
use Rattle.sil_watch.specs.declared.kind.WatchSet.{WatchSet}
use Rattle.sil_watch.specs.declared.record.PhaseRecord.{PhaseRecord}

fold-more : (rule : List ℕ → PhaseRecord → List ℕ) (state : List ℕ) (rs : List PhaseRecord) (r : PhaseRecord)
    → fold_of rule state (rs ++ r ∷ []) ≡ fold_of rule (fold_of rule state rs) (r ∷ [])
unfolding fold_of
fold-more rule state [] r = refl
fold-more rule state (q ∷ rs) r = fold-more rule (rule state q) rs r

pub fed-asked : (asked : WatchSet) (rs : List PhaseRecord) (w : WatcherValue) → is_asked_of asked w ≡ true → fed_of asked rs w ≡ fed_with rs w
unfolding fed_of
fed-asked asked rs w e = rw e refl

pub fed-other : (asked : WatchSet) (rs : List PhaseRecord) (w : WatcherValue) → is_asked_of asked w ≡ false → fed_of asked rs w ≡ w
unfolding fed_of
fed-other asked rs w e = rw e refl

-- one record more
fed-more : (asked : WatchSet) (rs : List PhaseRecord) (r : PhaseRecord) (w : WatcherValue) (b : Bool) → is_asked_of asked w ≡ b
    → fed_of asked (rs ++ r ∷ []) w ≡ fed_of asked (r ∷ []) (fed_of asked rs w)
fed-more asked rs r w true e =
    let after : WatcherValue = fed_with rs w in
    fed-asked asked (rs ++ r ∷ []) w e
    ∙ ap (λ (s : List ℕ). record w { state = s }) (fold-more w.rule w.state rs r)
    ∙ sym (ap (fed_of asked (r ∷ [])) (fed-asked asked rs w e) ∙ fed-asked asked (r ∷ []) after e)
fed-more asked rs r w false e =
    fed-other asked (rs ++ r ∷ []) w e ∙ sym (ap (fed_of asked (r ∷ [])) (fed-other asked rs w e) ∙ fed-other asked (r ∷ []) w e)

-- no record
fed-nothing : (asked : WatchSet) (w : WatcherValue) (b : Bool) → is_asked_of asked w ≡ b → fed_of asked [] w ≡ w
unfolding fold_of
fed-nothing asked w true e = fed-asked asked [] w e
fed-nothing asked w false e = fed-other asked [] w e

pub all-more : (asked : WatchSet) (rs : List PhaseRecord) (r : PhaseRecord) (ws : List WatcherValue)
    → map (fed_of asked (rs ++ r ∷ [])) ws ≡ map (fed_of asked (r ∷ [])) (map (fed_of asked rs) ws)
all-more asked rs r [] = refl
all-more asked rs r (w ∷ ws) =
    ap (λ (v : WatcherValue). v ∷ map (fed_of asked (rs ++ r ∷ [])) ws) (fed-more asked rs r w (is_asked_of asked w) refl)
    ∙ ap (λ (vs : List WatcherValue). fed_of asked (r ∷ []) (fed_of asked rs w) ∷ vs) (all-more asked rs r ws)

pub all-nothing : (asked : WatchSet) (ws : List WatcherValue) → map (fed_of asked []) ws ≡ ws
all-nothing asked [] = refl
all-nothing asked (w ∷ ws) =
    ap (λ (v : WatcherValue). v ∷ map (fed_of asked []) ws) (fed-nothing asked w (is_asked_of asked w) refl) ∙ ap (λ (vs : List WatcherValue). w ∷ vs) (all-nothing asked ws)
