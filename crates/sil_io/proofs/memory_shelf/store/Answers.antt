use Rattle.std.proofs.Common.{◌≡◌, Some, None, ◌∙◌, ap, sym}
use Rattle.std.specs.List.{position}
use Rattle.sil_io.specs.ShelfState.{bytes_under, has_name}
use Rattle.sil_io.proofs.Files.{bytes_under-set, bytes_under-set_other, bytes_under-push, bytes_under-push_other}
use Rattle.sil_io.proofs.memory_shelf.store.Goals as goal

pub returns-in-Some-clause-put : goal.returns-in-Some-clause-put
returns-in-Some-clause-put c =
    let name_is : c.as_str.result.now ≡ c.args.file.name = c.as_str.ensures.value ∙ ap (λ f. f.name) c.file.view_is in
    let place_is : position (has_name c.args.file.name) c.args.files.now.items ≡ Some c.in-Some.place =
    ap (λ n. position (has_name n) c.args.files.now.items) (sym name_is) ∙ ap (position (has_name c.as_str.result.now)) (sym c.deref.ensures.value) ∙ sym c.in-Some.ensures in
    bytes_under-set c.args.files.now.items c.args.file c.in-Some.place place_is

pub returns-in-Some-clause-others_stay : goal.returns-in-Some-clause-others_stay
returns-in-Some-clause-others_stay c =
    let name_is : c.as_str.result.now ≡ c.args.file.name = c.as_str.ensures.value ∙ ap (λ f. f.name) c.file.view_is in
    let place_is : position (has_name c.args.file.name) c.args.files.now.items ≡ Some c.in-Some.place =
    ap (λ n. position (has_name n) c.args.files.now.items) (sym name_is) ∙ ap (position (has_name c.as_str.result.now)) (sym c.deref.ensures.value) ∙ sym c.in-Some.ensures in
    λ other ne. bytes_under-set_other c.args.files.now.items c.args.file c.in-Some.place other place_is ne

pub returns-in_ok-push-in-None-clause-put : goal.returns-in_ok-push-in-None-clause-put
returns-in_ok-push-in-None-clause-put c =
    let name_is : c.as_str.result.now ≡ c.args.file.name = c.as_str.ensures.value ∙ ap (λ f. f.name) c.file.view_is in
    let place_is : position (has_name c.args.file.name) c.args.files.now.items ≡ None =
    ap (λ n. position (has_name n) c.args.files.now.items) (sym name_is) ∙ ap (position (has_name c.as_str.result.now)) (sym c.deref.ensures.value) ∙ sym c.in-None.ensures in
    ap (λ fs. bytes_under fs c.args.file.name) c.in_ok-push-in-None.ensures.items
    ∙ bytes_under-push c.args.files.now.items c.args.file place_is

pub returns-in_ok-push-in-None-clause-others_stay :
    goal.returns-in_ok-push-in-None-clause-others_stay
returns-in_ok-push-in-None-clause-others_stay c =
    λ other ne. ap (λ fs. bytes_under fs other) c.in_ok-push-in-None.ensures.items
    ∙ bytes_under-push_other c.args.files.now.items c.args.file other ne
