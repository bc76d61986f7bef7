use Rattle.limit_laws.specs.Exact.{figure_of}
use Rattle.limit_laws.proofs.Limits.{one_limit}
use Rattle.limit_laws.proofs.Figures.{exact_figure, exact_near, contained18, exact_inside, fraction18}
use Rattle.limit_laws.proofs.exact_figures.Goals as goal

pub returns : goal.returns
returns c = record {
  of_fraction = fraction18;
  exists = λ f l v. exact_figure l v f;
  one = λ f l r s a b. one_limit (λ n. figure_of f n l) r s a.limit b.limit;
  contained = λ f l r a order lo hi h. contained18 (λ n. figure_of f n l) r a.limit order lo hi h;
  inside = exact_inside;
  near = λ f l v. exact_near l v f;
}
