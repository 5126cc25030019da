-- The coefficients of a section as its step on 64 bits takes them, and their products.
use Rattle.std.specs.Prelude.{◌≡◌, ℤ}
use Rattle.flk_cert.specs.declared.coefs.Coefs.{Coefs}
use Rattle.flk_section.specs.declared.fine.FineCoefs.{FineCoefs}
use Rattle.flk_section.specs.declared.products.InputProducts.{InputProducts}
use Rattle.flk_section.specs.declared.products.OutputProducts.{OutputProducts}
use Rattle.flk_section.specs.Narrow.{fine_of, fine_product}

-- the coefficients over 2^61 are these
pub record IsFine (k : Coefs) (f : FineCoefs) : Type 0 where
  pub b0 : f.b0 ≡ fine_of k.b0
  pub b1 : f.b1 ≡ fine_of k.b1
  pub b2 : f.b2 ≡ fine_of k.b2
  pub a1 : f.a1 ≡ fine_of k.a1
  pub a2 : f.a2 ≡ fine_of k.a2

-- the products of the input X
pub record AreInputProducts (f : FineCoefs) (X : ℤ) (p : InputProducts) : Type 0 where
  pub b0 : p.b0 ≡ fine_product f.b0 X
  pub b1 : p.b1 ≡ fine_product f.b1 X
  pub b2 : p.b2 ≡ fine_product f.b2 X

-- the products of the output Y
pub record AreOutputProducts (f : FineCoefs) (Y : ℤ) (p : OutputProducts) : Type 0 where
  pub a1 : p.a1 ≡ fine_product f.a1 Y
  pub a2 : p.a2 ≡ fine_product f.a2 Y
