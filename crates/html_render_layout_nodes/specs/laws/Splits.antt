-- Joined forests, and where a forest can be split.
use Rattle.std.specs.Prelude.{◌≡◌, refl}
use Rattle.std.proofs.Common.{ap}
use Rattle.html_render_dom_values.specs.Forest.{Forest, none, node, followed_by}

module _ {K : Type 0} where
  pub followed_by-none : (t : Forest K) → followed_by t none ≡ t
  followed_by-none none = refl
  followed_by-none (node k children beside) = ap (λ u. node k children u) (followed_by-none beside)

  pub followed_by-followed_by : (t u v : Forest K) → followed_by (followed_by t u) v ≡ followed_by t (followed_by u v)
  followed_by-followed_by none u v = refl
  followed_by-followed_by (node k children beside) u v = ap (λ w. node k children w) (followed_by-followed_by beside u v)
