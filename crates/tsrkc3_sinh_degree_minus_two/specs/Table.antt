-- TSRKC3's sinh of (s - 2) acosh(1.25) / s: a table of document 02, CR 7, with the doubles of the named build (docs/VECTORS.md). Bit patterns, 16 counts a row,
-- a row's first count above it. A count outside 3 to 1000 has the nearest entry.
use Rattle.std.specs.Prelude.{ℕ, min, List, [], ◌∷◌, Float}
use Rattle.table.specs.Rows.{entry}

abbrev pub bits : List (List ℕ)
bits =
    -- 0
    (0x3fcdd68e9bbaedb2 ∷ 0x3fcdd68e9bbaedb2 ∷ 0x3fcdd68e9bbaedb2 ∷ 0x3fcdd68e9bbaedb2 ∷
    0x3fd6a09e667f3bcc ∷ 0x3fdb640bb3ac094b ∷ 0x3fdea35a50ed69ec ∷ 0x3fe07fa5b3a848ef ∷
    0x3fe165209441f822 ∷ 0x3fe2197dc18afc5b ∷ 0x3fe2ab04177e6de6 ∷ 0x3fe322ec6b8289b8 ∷
    0x3fe38770a56ad5c9 ∷ 0x3fe3dcec36ae71a1 ∷ 0x3fe426834f9e9265 ∷ 0x3fe46688772288d8 ∷ []) ∷
    -- 16
    (0x3fe49ebcbebcfbca ∷ 0x3fe4d079b6a96117 ∷ 0x3fe4fccda4eccde4 ∷ 0x3fe5248efa5b7b04 ∷
    0x3fe5486a0a0527e0 ∷ 0x3fe568eae56f38cc ∷ 0x3fe58684930f87b1 ∷ 0x3fe5a1966a535ee8 ∷
    0x3fe5ba701da35691 ∷ 0x3fe5d154cfbe3436 ∷ 0x3fe5e67d7569c271 ∷ 0x3fe5fa1ab1741326 ∷
    0x3fe60c564c059739 ∷ 0x3fe61d545d458e5e ∷ 0x3fe62d343cfe8347 ∷ 0x3fe63c11446dd2e6 ∷ []) ∷
    -- 32
    (0x3fe64a036c27cc51 ∷ 0x3fe6571fcd996f7a ∷ 0x3fe663790defb5b0 ∷ 0x3fe66f1fb6dd8630 ∷
    0x3fe67a2280bd8f36 ∷ 0x3fe6848e90ce01bb ∷ 0x3fe68e6fadb1d0ae ∷ 0x3fe697d06bf22d96 ∷
    0x3fe6a0ba53e34258 ∷ 0x3fe6a936020a834e ∷ 0x3fe6b14b42eee51d ∷ 0x3fe6b9012b106a24 ∷
    0x3fe6c05e2ba2542d ∷ 0x3fe6c7682487e5fa ∷ 0x3fe6ce2473fd8ff0 ∷ 0x3fe6d49804468340 ∷ []) ∷
    -- 48
    (0x3fe6dac757a81aca ∷ 0x3fe6e0b692f0a377 ∷ 0x3fe6e66986bd482f ∷ 0x3fe6ebe3b7aad691 ∷
    0x3fe6f12865966499 ∷ 0x3fe6f63a920d52c9 ∷ 0x3fe6fb1d06078509 ∷ 0x3fe6ffd25702cb32 ∷
    0x3fe7045ceb933058 ∷ 0x3fe708beff7927ca ∷ 0x3fe70cfaa74c3c22 ∷ 0x3fe71111d3c6eb93 ∷
    0x3fe7150654beaf2a ∷ 0x3fe718d9dbd1bbdf ∷ 0x3fe71c8dfed2d2c0 ∷ 0x3fe7202439fa682c ∷ []) ∷
    -- 64
    (0x3fe7239df1e38286 ∷ 0x3fe726fc7559e920 ∷ 0x3fe72a40fefe8f5a ∷ 0x3fe72d6cb6c69287 ∷
    0x3fe73080b3589f29 ∷ 0x3fe7337dfb4c210c ∷ 0x3fe73665864d3f35 ∷ 0x3fe739383e284e79 ∷
    0x3fe73bf6ffbf1a08 ∷ 0x3fe73ea29bea1f0c ∷ 0x3fe7413bd8479e66 ∷ 0x3fe743c36ffa341a ∷
    0x3fe7463a14587702 ∷ 0x3fe748a06d8efb52 ∷ 0x3fe74af71b35ef18 ∷ 0x3fe74d3eb4db687e ∷ []) ∷
    -- 80
    (0x3fe74f77ca8361e8 ∷ 0x3fe751a2e51e4708 ∷ 0x3fe753c086f6e022 ∷ 0x3fe755d12c185502 ∷
    0x3fe757d54aacef5e ∷ 0x3fe759cd5356350b ∷ 0x3fe75bb9b17ee3f4 ∷ 0x3fe75d9acba74d42 ∷
    0x3fe75f7103ac81dc ∷ 0x3fe7613cb70ab818 ∷ 0x3fe762fe3f1b4950 ∷ 0x3fe764b5f14e9daf ∷
    0x3fe766641f625540 ∷ 0x3fe768091793f650 ∷ 0x3fe769a524d0632e ∷ 0x3fe76b388ee053d9 ∷ []) ∷
    -- 96
    (0x3fe76cc39a920b0e ∷ 0x3fe76e4689e079a0 ∷ 0x3fe76fc19c17fee6 ∷ 0x3fe771350df8f155 ∷
    0x3fe772a119d816b7 ∷ 0x3fe77405f7bd309f ∷ 0x3fe77563dd7fbea6 ∷ 0x3fe776bafee21570 ∷
    0x3fe7780b8daae732 ∷ 0x3fe77955b9bd5818 ∷ 0x3fe77a99b12fb714 ∷ 0x3fe77bd7a060f1c6 ∷
    0x3fe77d0fb20cd85b ∷ 0x3fe77e420f5f44f9 ∷ 0x3fe77f6ee00638aa ∷ 0x3fe780964a42fe89 ∷ []) ∷
    -- 112
    (0x3fe781b872fa64cc ∷ 0x3fe782d57dc41a04 ∷ 0x3fe783ed8cf93c24 ∷ 0x3fe78500c1c225c1 ∷
    0x3fe7860f3c23852b ∷ 0x3fe787191b0ac850 ∷ 0x3fe7881e7c59e771 ∷ 0x3fe7891f7cf29838 ∷
    0x3fe78a1c38c0f1d7 ∷ 0x3fe78b14cac58aa7 ∷ 0x3fe78c094d1f16b3 ∷ 0x3fe78cf9d9138ea4 ∷
    0x3fe78de68718e5a6 ∷ 0x3fe78ecf6edd5499 ∷ 0x3fe78fb4a74f4078 ∷ 0x3fe7909646a4c192 ∷ []) ∷
    -- 128
    (0x3fe791746262d0a7 ∷ 0x3fe7924f0f641ed8 ∷ 0x3fe7932661df9d06 ∷ 0x3fe793fa6d6eb6d2 ∷
    0x3fe794cb4513456a ∷ 0x3fe79598fb3d3dbf ∷ 0x3fe79663a1d01ded ∷ 0x3fe7972b4a281cfc ∷
    0x3fe797f0051f2042 ∷ 0x3fe798b1e311795a ∷ 0x3fe79970f3e26f7c ∷ 0x3fe79a2d470096cb ∷
    0x3fe79ae6eb69f83b ∷ 0x3fe79b9defb00c43 ∷ 0x3fe79c5261fb8aa7 ∷ 0x3fe79d0450101178 ∷ []) ∷
    -- 144
    (0x3fe79db3c74fa52f ∷ 0x3fe79e60d4be0bcb ∷ 0x3fe79f0b850404cc ∷ 0x3fe79fb3e4725f97 ∷
    0x3fe7a059ff04f1e3 ∷ 0x3fe7a0fde0656fba ∷ 0x3fe7a19f93ee2669 ∷ 0x3fe7a23f24ac9bc0 ∷
    0x3fe7a2dc9d6412ed ∷ 0x3fe7a378088ff808 ∷ 0x3fe7a4117066339f ∷ 0x3fe7a4a8ded9674a ∷
    0x3fe7a53e5d9b142e ∷ 0x3fe7a5d1f61dac9c ∷ 0x3fe7a663b1969195 ∷ 0x3fe7a6f398fffd27 ∷ []) ∷
    -- 160
    (0x3fe7a781b51ada66 ∷ 0x3fe7a80e0e708beb ∷ 0x3fe7a898ad54a180 ∷ 0x3fe7a92199e67db4 ∷
    0x3fe7a9a8dc12ec12 ∷ 0x3fe7aa2e7b95a8a9 ∷ 0x3fe7aab27ffad95c ∷ 0x3fe7ab34f0a079ba ∷
    0x3fe7abb5d4b7b9e9 ∷ 0x3fe7ac353346510e ∷ 0x3fe7acb31327c3df ∷ 0x3fe7ad2f7b0e9fb8 ∷
    0x3fe7adaa7185aabf ∷ 0x3fe7ae23fcf10986 ∷ 0x3fe7ae9c238f5a89 ∷ 0x3fe7af12eb7ac801 ∷ []) ∷
    -- 176
    (0x3fe7af885aaa106c ∷ 0x3fe7affc76f1860c ∷ 0x3fe7b06f460405f0 ∷ 0x3fe7b0e0cd73e69a ∷
    0x3fe7b15112b3deca ∷ 0x3fe7b1c01b17e4a2 ∷ 0x3fe7b22debd60569 ∷ 0x3fe7b29a8a073653 ∷
    0x3fe7b305faa81e63 ∷ 0x3fe7b3704299d9e4 ∷ 0x3fe7b3d966a2b77a ∷ 0x3fe7b4416b6eef3a ∷
    0x3fe7b4a8559153e4 ∷ 0x3fe7b50e2983fe7f ∷ 0x3fe7b572eba8f495 ∷ 0x3fe7b5d6a04ac92c ∷ []) ∷
    -- 192
    (0x3fe7b6394b9d38c7 ∷ 0x3fe7b69af1bdc08a ∷ 0x3fe7b6fb96b430b0 ∷ 0x3fe7b75b3e733a88 ∷
    0x3fe7b7b9ecd8fa20 ∷ 0x3fe7b817a5af7bac ∷ 0x3fe7b8746cad3d05 ∷ 0x3fe7b8d04575ab1e ∷
    0x3fe7b92b33999bd8 ∷ 0x3fe7b9853a97c41d ∷ 0x3fe7b9de5ddd2a8c ∷ 0x3fe7ba36a0c596b3 ∷
    0x3fe7ba8e069bfd17 ∷ 0x3fe7bae4929ae804 ∷ 0x3fe7bb3a47ecdd5b ∷ 0x3fe7bb8f29acc166 ∷ []) ∷
    -- 208
    (0x3fe7bbe33ae636e3 ∷ 0x3fe7bc367e95fc37 ∷ 0x3fe7bc88f7aa4611 ∷ 0x3fe7bcdaa903176a ∷
    0x3fe7bd2b95729709 ∷ 0x3fe7bd7bbfbd62b4 ∷ 0x3fe7bdcb2a9adfe9 ∷ 0x3fe7be19d8b58a7c ∷
    0x3fe7be67ccab40ef ∷ 0x3fe7beb5090d8eba ∷ 0x3fe7bf019061f480 ∷ 0x3fe7bf4d65222e59 ∷
    0x3fe7bf9889bc781a ∷ 0x3fe7bfe30093cfe3 ∷ 0x3fe7c02ccc0036c4 ∷ 0x3fe7c075ee4eefb7 ∷ []) ∷
    -- 224
    (0x3fe7c0be69c2bce6 ∷ 0x3fe7c10640941b4f ∷ 0x3fe7c14d74f17cd1 ∷ 0x3fe7c19408ff80b8 ∷
    0x3fe7c1d9fed92ac4 ∷ 0x3fe7c21f589018ce ∷ 0x3fe7c264182cb6ec ∷ 0x3fe7c2a83fae725b ∷
    0x3fe7c2ebd10beb06 ∷ 0x3fe7c32ece3323c8 ∷ 0x3fe7c3713909b179 ∷ 0x3fe7c3b3136ce8be ∷
    0x3fe7c3f45f320abb ∷ 0x3fe7c4351e26709c ∷ 0x3fe7c475520fb602 ∷ 0x3fe7c4b4fcabe270 ∷ []) ∷
    -- 240
    (0x3fe7c4f41fb1919a ∷ 0x3fe7c532bcd01ac4 ∷ 0x3fe7c570d5afb722 ∷ 0x3fe7c5ae6bf1a73e ∷
    0x3fe7c5eb81305786 ∷ 0x3fe7c62816ff83e0 ∷ 0x3fe7c6642eec5a6e ∷ 0x3fe7c69fca7d9d76 ∷
    0x3fe7c6daeb33c479 ∷ 0x3fe7c71592891c78 ∷ 0x3fe7c74fc1f1e780 ∷ 0x3fe7c7897adc7b6d ∷
    0x3fe7c7c2beb15fea ∷ 0x3fe7c7fb8ed36bd1 ∷ 0x3fe7c833ec9fe1c4 ∷ 0x3fe7c86bd96e8c21 ∷ []) ∷
    -- 256
    (0x3fe7c8a35691d856 ∷ 0x3fe7c8da6556f18c ∷ 0x3fe7c9110705daad ∷ 0x3fe7c9473ce187dc ∷
    0x3fe7c97d0827f753 ∷ 0x3fe7c9b26a1249a1 ∷ 0x3fe7c9e763d4d978 ∷ 0x3fe7ca1bf69f52d0 ∷
    0x3fe7ca50239cc99b ∷ 0x3fe7ca83ebf3cfe2 ∷ 0x3fe7cab750c68b7c ∷ 0x3fe7caea5332cb2c ∷
    0x3fe7cb1cf4521b5c ∷ 0x3fe7cb4f3539da51 ∷ 0x3fe7cb8116fb4c00 ∷ 0x3fe7cbb29aa3ad5b ∷ []) ∷
    -- 272
    (0x3fe7cbe3c13c4748 ∷ 0x3fe7cc148bca811c ∷ 0x3fe7cc44fb4ff2b8 ∷ 0x3fe7cc7510ca763f ∷
    0x3fe7cca4cd343966 ∷ 0x3fe7ccd43183ce6f ∷ 0x3fe7cd033eac3cb3 ∷ 0x3fe7cd31f59d10e8 ∷
    0x3fe7cd6057426cf7 ∷ 0x3fe7cd8e64851795 ∷ 0x3fe7cdbc1e4a8b6c ∷ 0x3fe7cde985750603 ∷
    0x3fe7ce169ae3965c ∷ 0x3fe7ce435f722b24 ∷ 0x3fe7ce6fd3f9a0c3 ∷ 0x3fe7ce9bf94fcef5 ∷ []) ∷
    -- 288
    (0x3fe7cec7d0479640 ∷ 0x3fe7cef359b0ed04 ∷ 0x3fe7cf1e9658ec5e ∷ 0x3fe7cf498709dcb8 ∷
    0x3fe7cf742c8b421a ∷ 0x3fe7cf9e87a1e845 ∷ 0x3fe7cfc8990fee7a ∷ 0x3fe7cff26194d316 ∷
    0x3fe7d01be1ed7ef1 ∷ 0x3fe7d0451ad45074 ∷ 0x3fe7d06e0d012680 ∷ 0x3fe7d096b9296b24 ∷
    0x3fe7d0bf20001e0c ∷ 0x3fe7d0e74235dec5 ∷ 0x3fe7d10f2078f6d0 ∷ 0x3fe7d136bb756374 ∷ []) ∷
    -- 304
    (0x3fe7d15e13d4df6e ∷ 0x3fe7d1852a3eec69 ∷ 0x3fe7d1abff58dc48 ∷ 0x3fe7d1d293c5da39 ∷
    0x3fe7d1f8e826f3ae ∷ 0x3fe7d21efd1b2117 ∷ 0x3fe7d244d33f4e78 ∷ 0x3fe7d26a6b2e63d7 ∷
    0x3fe7d28fc5814d82 ∷ 0x3fe7d2b4e2cf041b ∷ 0x3fe7d2d9c3ac9498 ∷ 0x3fe7d2fe68ad280b ∷
    0x3fe7d322d2620b3e ∷ 0x3fe7d347015ab646 ∷ 0x3fe7d36af624d3cd ∷ 0x3fe7d38eb14c4852 ∷ []) ∷
    -- 320
    (0x3fe7d3b2335b3947 ∷ 0x3fe7d3d57cda13f7 ∷ 0x3fe7d3f88e4f9466 ∷ 0x3fe7d41b6840cbfa ∷
    0x3fe7d43e0b312815 ∷ 0x3fe7d46077a27886 ∷ 0x3fe7d482ae14f5e3 ∷ 0x3fe7d4a4af0747b8 ∷
    0x3fe7d4c67af68aaf ∷ 0x3fe7d4e8125e567f ∷ 0x3fe7d50975b8c3de ∷ 0x3fe7d52aa57e723b ∷
    0x3fe7d54ba2268d78 ∷ 0x3fe7d56c6c26d36f ∷ 0x3fe7d58d03f39973 ∷ 0x3fe7d5ad69ffd1b0 ∷ []) ∷
    -- 336
    (0x3fe7d5cd9ebd1073 ∷ 0x3fe7d5eda29b914d ∷ 0x3fe7d60d760a3c3f ∷ 0x3fe7d62d1976aaac ∷
    0x3fe7d64c8d4d2c46 ∷ 0x3fe7d66bd1f8cbe7 ∷ 0x3fe7d68ae7e35449 ∷ 0x3fe7d6a9cf7554b1 ∷
    0x3fe7d6c88916258a ∷ 0x3fe7d6e7152becda ∷ 0x3fe7d705741ba2b6 ∷ 0x3fe7d723a6491595 ∷
    0x3fe7d741ac16ee9e ∷ 0x3fe7d75f85e6b5cd ∷ 0x3fe7d77d3418d621 ∷ 0x3fe7d79ab70ca1a4 ∷ []) ∷
    -- 352
    (0x3fe7d7b80f205566 ∷ 0x3fe7d7d53cb11d66 ∷ 0x3fe7d7f2401b1878 ∷ 0x3fe7d80f19b95bff ∷
    0x3fe7d82bc9e5f7b2 ∷ 0x3fe7d84850f9f940 ∷ 0x3fe7d864af4d6fe9 ∷ 0x3fe7d880e537700a ∷
    0x3fe7d89cf30e1697 ∷ 0x3fe7d8b8d9268c8a ∷ 0x3fe7d8d497d50a3c ∷ 0x3fe7d8f02f6cdab6 ∷
    0x3fe7d90ba0405ef5 ∷ 0x3fe7d926eaa1111e ∷ 0x3fe7d9420edf87a0 ∷ 0x3fe7d95d0d4b7852 ∷ []) ∷
    -- 368
    (0x3fe7d977e633bb78 ∷ 0x3fe7d99299e64ed0 ∷ 0x3fe7d9ad28b05879 ∷ 0x3fe7d9c792de29df ∷
    0x3fe7d9e1d8bb4293 ∷ 0x3fe7d9fbfa92531f ∷ 0x3fe7da15f8ad3fca ∷ 0x3fe7da2fd3552348 ∷
    0x3fe7da498ad25170 ∷ 0x3fe7da631f6c59e0 ∷ 0x3fe7da7c916a0a8a ∷ 0x3fe7da95e111724b ∷
    0x3fe7daaf0ea7e369 ∷ 0x3fe7dac81a71f611 ∷ 0x3fe7dae104b38ac3 ∷ 0x3fe7daf9cdafccb0 ∷ []) ∷
    -- 384
    (0x3fe7db1275a93424 ∷ 0x3fe7db2afce188ce ∷ 0x3fe7db436399e40a ∷ 0x3fe7db5baa12b326 ∷
    0x3fe7db73d08bb994 ∷ 0x3fe7db8bd7441318 ∷ 0x3fe7dba3be7a35f4 ∷ 0x3fe7dbbb866bf4fc ∷
    0x3fe7dbd32f5681b5 ∷ 0x3fe7dbeab9766e5b ∷ 0x3fe7dc022507afe6 ∷ 0x3fe7dc197245a00a ∷
    0x3fe7dc30a16aff2d ∷ 0x3fe7dc47b2b1f652 ∷ 0x3fe7dc5ea65418ff ∷ 0x3fe7dc757c8a671e ∷ []) ∷
    -- 400
    (0x3fe7dc8c358d4ed8 ∷ 0x3fe7dca2d194ae5b ∷ 0x3fe7dcb950d7d5af ∷ 0x3fe7dccfb38d887a ∷
    0x3fe7dce5f9ebffaf ∷ 0x3fe7dcfc2428eb50 ∷ 0x3fe7dd123279741b ∷ 0x3fe7dd2825123d2e ∷
    0x3fe7dd3dfc2765b1 ∷ 0x3fe7dd53b7ec8a6c ∷ 0x3fe7dd695894c764 ∷ 0x3fe7dd7ede52b966 ∷
    0x3fe7dd9449587f94 ∷ 0x3fe7dda999d7bce8 ∷ 0x3fe7ddbed00199ba ∷ 0x3fe7ddd3ec06c535 ∷ []) ∷
    -- 416
    (0x3fe7dde8ee1776c7 ∷ 0x3fe7ddfdd6636f9b ∷ 0x3fe7de12a519fbfa ∷ 0x3fe7de275a69f4b2 ∷
    0x3fe7de3bf681c078 ∷ 0x3fe7de50798f553e ∷ 0x3fe7de64e3c03991 ∷ 0x3fe7de79354185dd ∷
    0x3fe7de8d6e3fe5c4 ∷ 0x3fe7dea18ee79965 ∷ 0x3fe7deb597647696 ∷ 0x3fe7dec987e1ea2b ∷
    0x3fe7dedd608af928 ∷ 0x3fe7def1218a4200 ∷ 0x3fe7df04cb09fdc0 ∷ 0x3fe7df185d340139 ∷ []) ∷
    -- 432
    (0x3fe7df2bd831be33 ∷ 0x3fe7df3f3c2c4482 ∷ 0x3fe7df52894c4339 ∷ 0x3fe7df65bfba09b6 ∷
    0x3fe7df78df9d88c6 ∷ 0x3fe7df8be91e53b3 ∷ 0x3fe7df9edc63a159 ∷ 0x3fe7dfb1b9944d2f ∷
    0x3fe7dfc480d6d857 ∷ 0x3fe7dfd732516a9e ∷ 0x3fe7dfe9ce29d380 ∷ 0x3fe7dffc54858b2a ∷
    0x3fe7e00ec589b372 ∷ 0x3fe7e021215b18cf ∷ 0x3fe7e033681e3351 ∷ 0x3fe7e04599f72791 ∷ []) ∷
    -- 448
    (0x3fe7e057b709c79a ∷ 0x3fe7e069bf7993e1 ∷ 0x3fe7e07bb369bc1b ∷ 0x3fe7e08d92fd2035 ∷
    0x3fe7e09f5e565124 ∷ 0x3fe7e0b1159791d4 ∷ 0x3fe7e0c2b8e2d7f8 ∷ 0x3fe7e0d44859cce5 ∷
    0x3fe7e0e5c41dce71 ∷ 0x3fe7e0f72c4fefb8 ∷ 0x3fe7e1088110f9fb ∷ 0x3fe7e119c2816d64 ∷
    0x3fe7e12af0c181d3 ∷ 0x3fe7e13c0bf127aa ∷ 0x3fe7e14d1430088e ∷ 0x3fe7e15e099d8833 ∷ []) ∷
    -- 464
    (0x3fe7e16eec58c50f ∷ 0x3fe7e17fbc809926 ∷ 0x3fe7e1907a339abe ∷ 0x3fe7e1a125901d1a ∷
    0x3fe7e1b1beb43133 ∷ 0x3fe7e1c245bda66c ∷ 0x3fe7e1d2baca0b41 ∷ 0x3fe7e1e31df6adfd ∷
    0x3fe7e1f36f609d67 ∷ 0x3fe7e203af24a966 ∷ 0x3fe7e213dd5f63b3 ∷ 0x3fe7e223fa2d2083 ∷
    0x3fe7e23405a9f71e ∷ 0x3fe7e243fff1c292 ∷ 0x3fe7e253e920224c ∷ 0x3fe7e263c1507ab8 ∷ []) ∷
    -- 480
    (0x3fe7e273889df5e1 ∷ 0x3fe7e2833f23840a ∷ 0x3fe7e292e4fbdc45 ∷ 0x3fe7e2a27a417d0e ∷
    0x3fe7e2b1ff0eace2 ∷ 0x3fe7e2c1737d7acd ∷ 0x3fe7e2d0d7a7bf03 ∷ 0x3fe7e2e02ba71b68 ∷
    0x3fe7e2ef6f94fc25 ∷ 0x3fe7e2fea38a9830 ∷ 0x3fe7e30dc7a0f1dc ∷ 0x3fe7e31cdbf0d75c ∷
    0x3fe7e32be092e34e ∷ 0x3fe7e33ad59f7d42 ∷ 0x3fe7e349bb2eda3a ∷ 0x3fe7e3589158fd2f ∷ []) ∷
    -- 496
    (0x3fe7e3675835b797 ∷ 0x3fe7e3760fdca9da ∷ 0x3fe7e384b86543d7 ∷ 0x3fe7e39351e6c55f ∷
    0x3fe7e3a1dc783eb0 ∷ 0x3fe7e3b0583090ed ∷ 0x3fe7e3bec5266e9b ∷ 0x3fe7e3cd23705c10 ∷
    0x3fe7e3db7324afeb ∷ 0x3fe7e3e9b459938e ∷ 0x3fe7e3f7e7250386 ∷ 0x3fe7e4060b9cd003 ∷
    0x3fe7e41421d69d49 ∷ 0x3fe7e42229e7e412 ∷ 0x3fe7e43023e5f211 ∷ 0x3fe7e43e0fe5ea45 ∷ []) ∷
    -- 512
    (0x3fe7e44bedfcc57a ∷ 0x3fe7e459be3f52a1 ∷ 0x3fe7e46780c23741 ∷ 0x3fe7e4753599efde ∷
    0x3fe7e482dcdad05a ∷ 0x3fe7e49076990461 ∷ 0x3fe7e49e02e88fbe ∷ 0x3fe7e4ab81dd4ed0 ∷
    0x3fe7e4b8f38af6dc ∷ 0x3fe7e4c658051676 ∷ 0x3fe7e4d3af5f15dc ∷ 0x3fe7e4e0f9ac3750 ∷
    0x3fe7e4ee36ff9780 ∷ 0x3fe7e4fb676c2dd7 ∷ 0x3fe7e5088b04ccd8 ∷ 0x3fe7e515a1dc227e ∷ []) ∷
    -- 528
    (0x3fe7e522ac04b894 ∷ 0x3fe7e52fa990f502 ∷ 0x3fe7e53c9a931a30 ∷ 0x3fe7e5497f1d4758 ∷
    0x3fe7e556574178d6 ∷ 0x3fe7e56323118882 ∷ 0x3fe7e56fe29f2dfe ∷ 0x3fe7e57c95fbff09 ∷
    0x3fe7e5893d396fd1 ∷ 0x3fe7e595d868d340 ∷ 0x3fe7e5a2679b5b52 ∷ 0x3fe7e5aeeae2195c ∷
    0x3fe7e5bb624dfe5a ∷ 0x3fe7e5c7cdefdb41 ∷ 0x3fe7e5d42dd86144 ∷ 0x3fe7e5e082182220 ∷ []) ∷
    -- 544
    (0x3fe7e5eccabf906e ∷ 0x3fe7e5f907deffe2 ∷ 0x3fe7e6053986a592 ∷ 0x3fe7e6115fc6984d ∷
    0x3fe7e61d7aaed0cf ∷ 0x3fe7e6298a4f2a13 ∷ 0x3fe7e6358eb76194 ∷ 0x3fe7e64187f71794 ∷
    0x3fe7e64d761dcf58 ∷ 0x3fe7e659593aef79 ∷ 0x3fe7e665315dc217 ∷ 0x3fe7e670fe957526 ∷
    0x3fe7e67cc0f11aa6 ∷ 0x3fe7e688787fa8ee ∷ 0x3fe7e694254ffae0 ∷ 0x3fe7e69fc770d02e ∷ []) ∷
    -- 560
    (0x3fe7e6ab5ef0cd99 ∷ 0x3fe7e6b6ebde7d2a ∷ 0x3fe7e6c26e484e73 ∷ 0x3fe7e6cde63c96c7 ∷
    0x3fe7e6d953c99178 ∷ 0x3fe7e6e4b6fd6018 ∷ 0x3fe7e6f00fe60aa1 ∷ 0x3fe7e6fb5e917fc8 ∷
    0x3fe7e706a30d951f ∷ 0x3fe7e711dd68075b ∷ 0x3fe7e71d0dae7a86 ∷ 0x3fe7e72833ee7a3b ∷
    0x3fe7e733503579d8 ∷ 0x3fe7e73e6290d4b3 ∷ 0x3fe7e7496b0dce58 ∷ 0x3fe7e75469b992b3 ∷ []) ∷
    -- 576
    (0x3fe7e75f5ea1364f ∷ 0x3fe7e76a49d1b681 ∷ 0x3fe7e7752b57f99f ∷ 0x3fe7e7800340cf34 ∷
    0x3fe7e78ad198f032 ∷ 0x3fe7e795966cff1f ∷ 0x3fe7e7a051c98851 ∷ 0x3fe7e7ab03bb020e ∷
    0x3fe7e7b5ac4dccce ∷ 0x3fe7e7c04b8e3362 ∷ 0x3fe7e7cae1886b21 ∷ 0x3fe7e7d56e489418 ∷
    0x3fe7e7dff1dab940 ∷ 0x3fe7e7ea6c4ad0a3 ∷ 0x3fe7e7f4dda4bb8c ∷ 0x3fe7e7ff45f446b4 ∷ []) ∷
    -- 592
    (0x3fe7e809a5452a6f ∷ 0x3fe7e813fba30ad9 ∷ 0x3fe7e81e491977fd ∷ 0x3fe7e8288db3ee08 ∷
    0x3fe7e832c97dd568 ∷ 0x3fe7e83cfc828304 ∷ 0x3fe7e84726cd385d ∷ 0x3fe7e851486923b5 ∷
    0x3fe7e85b61616046 ∷ 0x3fe7e86571c0f657 ∷ 0x3fe7e86f7992db72 ∷ 0x3fe7e87978e1f28c ∷
    0x3fe7e8836fb90c20 ∷ 0x3fe7e88d5e22e666 ∷ 0x3fe7e897442a2d72 ∷ 0x3fe7e8a121d97b50 ∷ []) ∷
    -- 608
    (0x3fe7e8aaf73b5842 ∷ 0x3fe7e8b4c45a3acc ∷ 0x3fe7e8be894087ec ∷ 0x3fe7e8c845f89334 ∷
    0x3fe7e8d1fa8c9ef4 ∷ 0x3fe7e8dba706dc58 ∷ 0x3fe7e8e54b716b94 ∷ 0x3fe7e8eee7d65bfe ∷
    0x3fe7e8f87c3fac3c ∷ 0x3fe7e90208b74a5a ∷ 0x3fe7e90b8d4713f6 ∷ 0x3fe7e91509f8d65f ∷
    0x3fe7e91e7ed64eb5 ∷ 0x3fe7e927ebe92a0d ∷ 0x3fe7e931513b058f ∷ 0x3fe7e93aaed56e9c ∷ []) ∷
    -- 624
    (0x3fe7e94404c1e2e6 ∷ 0x3fe7e94d5309d098 ∷ 0x3fe7e95699b69670 ∷ 0x3fe7e95fd8d183e5 ∷
    0x3fe7e9691063d93c ∷ 0x3fe7e9724076c7b5 ∷ 0x3fe7e97b6913719c ∷ 0x3fe7e9848a42ea6c ∷
    0x3fe7e98da40e36f1 ∷ 0x3fe7e996b67e4d64 ∷ 0x3fe7e99fc19c1582 ∷ 0x3fe7e9a8c57068b4 ∷
    0x3fe7e9b1c204121c ∷ 0x3fe7e9bab75fcec8 ∷ 0x3fe7e9c3a58c4dba ∷ 0x3fe7e9cc8c92300e ∷ []) ∷
    -- 640
    (0x3fe7e9d56c7a0911 ∷ 0x3fe7e9de454c5e66 ∷ 0x3fe7e9e71711a812 ∷ 0x3fe7e9efe1d250aa ∷
    0x3fe7e9f8a596b558 ∷ 0x3fe7ea0162672606 ∷ 0x3fe7ea0a184be576 ∷ 0x3fe7ea12c74d2954 ∷
    0x3fe7ea1b6f731a5b ∷ 0x3fe7ea2410c5d460 ∷ 0x3fe7ea2cab4d667a ∷ 0x3fe7ea353f11d316 ∷
    0x3fe7ea3dcc1b100a ∷ 0x3fe7ea46527106b4 ∷ 0x3fe7ea4ed21b9414 ∷ 0x3fe7ea574b2288dd ∷ []) ∷
    -- 656
    (0x3fe7ea5fbd8da991 ∷ 0x3fe7ea682964ae9d ∷ 0x3fe7ea708eaf4467 ∷ 0x3fe7ea78ed750b6d ∷
    0x3fe7ea8145bd985a ∷ 0x3fe7ea899790741a ∷ 0x3fe7ea91e2f51bf8 ∷ 0x3fe7ea9a27f301a8 ∷
    0x3fe7eaa266918b70 ∷ 0x3fe7eaaa9ed81424 ∷ 0x3fe7eab2d0cdeb5a ∷ 0x3fe7eabafc7a5567 ∷
    0x3fe7eac321e48b80 ∷ 0x3fe7eacb4113bbd0 ∷ 0x3fe7ead35a0f0986 ∷ 0x3fe7eadb6cdd8cf4 ∷ []) ∷
    -- 672
    (0x3fe7eae379865396 ∷ 0x3fe7eaeb80106036 ∷ 0x3fe7eaf38082aaf6 ∷ 0x3fe7eafb7ae42166 ∷
    0x3fe7eb036f3ba69b ∷ 0x3fe7eb0b5d901340 ∷ 0x3fe7eb1345e835aa ∷ 0x3fe7eb1b284ad1ec ∷
    0x3fe7eb2304bea1ef ∷ 0x3fe7eb2adb4a5577 ∷ 0x3fe7eb32abf49247 ∷ 0x3fe7eb3a76c3f429 ∷
    0x3fe7eb423bbf0d04 ∷ 0x3fe7eb49faec64f1 ∷ 0x3fe7eb51b4527a46 ∷ 0x3fe7eb5967f7c1b2 ∷ []) ∷
    -- 688
    (0x3fe7eb6115e2a645 ∷ 0x3fe7eb68be198988 ∷ 0x3fe7eb7060a2c38e ∷ 0x3fe7eb77fd84a304 ∷
    0x3fe7eb7f94c56d44 ∷ 0x3fe7eb87266b5e63 ∷ 0x3fe7eb8eb27ca947 ∷ 0x3fe7eb9638ff77b7 ∷
    0x3fe7eb9db9f9ea62 ∷ 0x3fe7eba535721901 ∷ 0x3fe7ebacab6e125a ∷ 0x3fe7ebb41bf3dc52 ∷
    0x3fe7ebbb87097406 ∷ 0x3fe7ebc2ecb4cdcc ∷ 0x3fe7ebca4cfbd558 ∷ 0x3fe7ebd1a7e46db6 ∷ []) ∷
    -- 704
    (0x3fe7ebd8fd747165 ∷ 0x3fe7ebe04db1b264 ∷ 0x3fe7ebe798a1fa46 ∷ 0x3fe7ebeede4b0a3d ∷
    0x3fe7ebf61eb29b24 ∷ 0x3fe7ebfd59de5d98 ∷ 0x3fe7ec048fd3fa03 ∷ 0x3fe7ec0bc09910a6 ∷
    0x3fe7ec12ec3339b4 ∷ 0x3fe7ec1a12a8054d ∷ 0x3fe7ec2133fcfba2 ∷ 0x3fe7ec2850379cf1 ∷
    0x3fe7ec2f675d61a2 ∷ 0x3fe7ec367973ba49 ∷ 0x3fe7ec3d86800fbb ∷ 0x3fe7ec448e87c31c ∷ []) ∷
    -- 720
    (0x3fe7ec4b91902de5 ∷ 0x3fe7ec528f9ea1fe ∷ 0x3fe7ec5988b869be ∷ 0x3fe7ec607ce2c803 ∷
    0x3fe7ec676c22f83a ∷ 0x3fe7ec6e567e2e6f ∷ 0x3fe7ec753bf99754 ∷ 0x3fe7ec7c1c9a5856 ∷
    0x3fe7ec82f8658fa5 ∷ 0x3fe7ec89cf605442 ∷ 0x3fe7ec90a18fb608 ∷ 0x3fe7ec976ef8bdc2 ∷
    0x3fe7ec9e37a06d2c ∷ 0x3fe7eca4fb8bbf05 ∷ 0x3fe7ecabbabfa71c ∷ 0x3fe7ecb27541125d ∷ []) ∷
    -- 736
    (0x3fe7ecb92b14e6d4 ∷ 0x3fe7ecbfdc4003c7 ∷ 0x3fe7ecc688c741b5 ∷ 0x3fe7eccd30af7268 ∷
    0x3fe7ecd3d3fd6104 ∷ 0x3fe7ecda72b5d208 ∷ 0x3fe7ece10cdd8363 ∷ 0x3fe7ece7a2792c7c ∷
    0x3fe7ecee338d7e3b ∷ 0x3fe7ecf4c01f2318 ∷ 0x3fe7ecfb4832bf26 ∷ 0x3fe7ed01cbccf017 ∷
    0x3fe7ed084af24d53 ∷ 0x3fe7ed0ec5a767f5 ∷ 0x3fe7ed153bf0cae3 ∷ 0x3fe7ed1badd2facd ∷ []) ∷
    -- 752
    (0x3fe7ed221b527640 ∷ 0x3fe7ed288473b5ab ∷ 0x3fe7ed2ee93b2b6f ∷ 0x3fe7ed3549ad43e3 ∷
    0x3fe7ed3ba5ce6562 ∷ 0x3fe7ed41fda2f053 ∷ 0x3fe7ed48512f3f36 ∷ 0x3fe7ed4ea077a6ad ∷
    0x3fe7ed54eb807580 ∷ 0x3fe7ed5b324df4b4 ∷ 0x3fe7ed6174e46786 ∷ 0x3fe7ed67b3480b7d ∷
    0x3fe7ed6ded7d1873 ∷ 0x3fe7ed742387c09a ∷ 0x3fe7ed7a556c308f ∷ 0x3fe7ed80832e8f58 ∷ []) ∷
    -- 768
    (0x3fe7ed86acd2fe74 ∷ 0x3fe7ed8cd25d99e2 ∷ 0x3fe7ed92f3d2782b ∷ 0x3fe7ed991135aa6c ∷
    0x3fe7ed9f2a8b3c5c ∷ 0x3fe7eda53fd73458 ∷ 0x3fe7edab511d9369 ∷ 0x3fe7edb15e625550 ∷
    0x3fe7edb767a9708c ∷ 0x3fe7edbd6cf6d666 ∷ 0x3fe7edc36e4e72f4 ∷ 0x3fe7edc96bb42d25 ∷
    0x3fe7edcf652be6cd ∷ 0x3fe7edd55ab97ca6 ∷ 0x3fe7eddb4c60c65c ∷ 0x3fe7ede13a25969a ∷ []) ∷
    -- 784
    (0x3fe7ede7240bbb08 ∷ 0x3fe7eded0a16fc5a ∷ 0x3fe7edf2ec4b1e56 ∷ 0x3fe7edf8caabdfe0 ∷
    0x3fe7edfea53cfaf9 ∷ 0x3fe7ee047c0224d4 ∷ 0x3fe7ee0a4eff0dd2 ∷ 0x3fe7ee101e37618a ∷
    0x3fe7ee15e9aec6db ∷ 0x3fe7ee1bb168dfec ∷ 0x3fe7ee2175694a34 ∷ 0x3fe7ee2735b39e86 ∷
    0x3fe7ee2cf24b710e ∷ 0x3fe7ee32ab345164 ∷ 0x3fe7ee386071ca90 ∷ 0x3fe7ee3e12076310 ∷ []) ∷
    -- 800
    (0x3fe7ee43bff89cda ∷ 0x3fe7ee496a48f56e ∷ 0x3fe7ee4f10fbe5d8 ∷ 0x3fe7ee54b414e2b5 ∷
    0x3fe7ee5a53975c3a ∷ 0x3fe7ee5fef86be42 ∷ 0x3fe7ee6587e6704b ∷ 0x3fe7ee6b1cb9d583 ∷
    0x3fe7ee70ae044cd0 ∷ 0x3fe7ee763bc930d3 ∷ 0x3fe7ee7bc60bd7ed ∷ 0x3fe7ee814ccf944c ∷
    0x3fe7ee86d017b3ef ∷ 0x3fe7ee8c4fe780ab ∷ 0x3fe7ee91cc424031 ∷ 0x3fe7ee97452b3419 ∷ []) ∷
    -- 816
    (0x3fe7ee9cbaa599e0 ∷ 0x3fe7eea22cb4aafc ∷ 0x3fe7eea79b5b9cd6 ∷ 0x3fe7eead069da0d0 ∷
    0x3fe7eeb26e7de458 ∷ 0x3fe7eeb7d2ff90e0 ∷ 0x3fe7eebd3425cbed ∷ 0x3fe7eec291f3b71a ∷
    0x3fe7eec7ec6c701c ∷ 0x3fe7eecd439310ce ∷ 0x3fe7eed2976aaf32 ∷ 0x3fe7eed7e7f65d76 ∷
    0x3fe7eedd353929fe ∷ 0x3fe7eee27f361f6a ∷ 0x3fe7eee7c5f04496 ∷ 0x3fe7eeed096a9ca8 ∷ []) ∷
    -- 832
    (0x3fe7eef249a8270d ∷ 0x3fe7eef786abdf84 ∷ 0x3fe7eefcc078be27 ∷ 0x3fe7ef01f711b767 ∷
    0x3fe7ef072a79bc19 ∷ 0x3fe7ef0c5ab3b97a ∷ 0x3fe7ef1187c29933 ∷ 0x3fe7ef16b1a94160 ∷
    0x3fe7ef1bd86a9495 ∷ 0x3fe7ef20fc0971e1 ∷ 0x3fe7ef261c88b4da ∷ 0x3fe7ef2b39eb3597 ∷
    0x3fe7ef305433c8c4 ∷ 0x3fe7ef356b653f98 ∷ 0x3fe7ef3a7f8267e6 ∷ 0x3fe7ef3f908e0c1e ∷ []) ∷
    -- 848
    (0x3fe7ef449e8af34d ∷ 0x3fe7ef49a97be12c ∷ 0x3fe7ef4eb163961c ∷ 0x3fe7ef53b644cf33 ∷
    0x3fe7ef58b8224636 ∷ 0x3fe7ef5db6feb1ae ∷ 0x3fe7ef62b2dcc4db ∷ 0x3fe7ef67abbf2fc6 ∷
    0x3fe7ef6ca1a89f42 ∷ 0x3fe7ef71949bbcec ∷ 0x3fe7ef76849b2f3a ∷ 0x3fe7ef7b71a99972 ∷
    0x3fe7ef805bc99bbe ∷ 0x3fe7ef8542fdd324 ∷ 0x3fe7ef8a2748d990 ∷ 0x3fe7ef8f08ad45da ∷ []) ∷
    -- 864
    (0x3fe7ef93e72dabca ∷ 0x3fe7ef98c2cc9c17 ∷ 0x3fe7ef9d9b8ca472 ∷ 0x3fe7efa271704f8a ∷
    0x3fe7efa7447a250e ∷ 0x3fe7efac14aca9ae ∷ 0x3fe7efb0e20a5f2b ∷ 0x3fe7efb5ac95c44c ∷
    0x3fe7efba745154f2 ∷ 0x3fe7efbf393f8a0f ∷ 0x3fe7efc3fb62d9af ∷ 0x3fe7efc8babdb703 ∷
    0x3fe7efcd77529259 ∷ 0x3fe7efd23123d92a ∷ 0x3fe7efd6e833f619 ∷ 0x3fe7efdb9c8550fa ∷ []) ∷
    -- 880
    (0x3fe7efe04e1a4ed3 ∷ 0x3fe7efe4fcf551e4 ∷ 0x3fe7efe9a918b9a5 ∷ 0x3fe7efee5286e2d2 ∷
    0x3fe7eff2f942276c ∷ 0x3fe7eff79d4cdeb3 ∷ 0x3fe7effc3ea95d3d ∷ 0x3fe7f000dd59f4ea ∷
    0x3fe7f0057960f4ef ∷ 0x3fe7f00a12c0a9d7 ∷ 0x3fe7f00ea97b5d8b ∷ 0x3fe7f0133d935751 ∷
    0x3fe7f017cf0adbd1 ∷ 0x3fe7f01c5de42d1b ∷ 0x3fe7f020ea218aa8 ∷ 0x3fe7f02573c53161 ∷ []) ∷
    -- 896
    (0x3fe7f029fad15b9e ∷ 0x3fe7f02e7f48412c ∷ 0x3fe7f033012c1754 ∷ 0x3fe7f037807f10d9 ∷
    0x3fe7f03bfd435dff ∷ 0x3fe7f040777b2c8a ∷ 0x3fe7f044ef28a7cd ∷ 0x3fe7f049644df89e ∷
    0x3fe7f04dd6ed4564 ∷ 0x3fe7f0524708b215 ∷ 0x3fe7f056b4a26042 ∷ 0x3fe7f05b1fbc6f0e ∷
    0x3fe7f05f8858fb3d ∷ 0x3fe7f063ee7a1f2c ∷ 0x3fe7f0685221f2e0 ∷ 0x3fe7f06cb3528c02 ∷ []) ∷
    -- 912
    (0x3fe7f071120dfde1 ∷ 0x3fe7f0756e56597e ∷ 0x3fe7f079c82dad86 ∷ 0x3fe7f07e1f960658 ∷
    0x3fe7f08274916e0c ∷ 0x3fe7f086c721ec71 ∷ 0x3fe7f08b17498715 ∷ 0x3fe7f08f650a4142 ∷
    0x3fe7f093b0661c08 ∷ 0x3fe7f097f95f1639 ∷ 0x3fe7f09c3ff72c74 ∷ 0x3fe7f0a084305923 ∷
    0x3fe7f0a4c60c947d ∷ 0x3fe7f0a9058dd48e ∷ 0x3fe7f0ad42b60d33 ∷ 0x3fe7f0b17d873025 ∷ []) ∷
    -- 928
    (0x3fe7f0b5b6032cf7 ∷ 0x3fe7f0b9ec2bf11a ∷ 0x3fe7f0be200367dc ∷ 0x3fe7f0c2518b7a76 ∷
    0x3fe7f0c680c61004 ∷ 0x3fe7f0caadb50d8a ∷ 0x3fe7f0ced85a55fa ∷ 0x3fe7f0d300b7ca37 ∷
    0x3fe7f0d726cf4912 ∷ 0x3fe7f0db4aa2af58 ∷ 0x3fe7f0df6c33d7c6 ∷ 0x3fe7f0e38b849b17 ∷
    0x3fe7f0e7a896d004 ∷ 0x3fe7f0ebc36c4b44 ∷ 0x3fe7f0efdc06df92 ∷ 0x3fe7f0f3f2685db0 ∷ []) ∷
    -- 944
    (0x3fe7f0f806929465 ∷ 0x3fe7f0fc18875083 ∷ 0x3fe7f10028485ced ∷ 0x3fe7f10435d7828f ∷
    0x3fe7f10841368870 ∷ 0x3fe7f10c4a6733a8 ∷ 0x3fe7f110516b4764 ∷ 0x3fe7f114564484f2 ∷
    0x3fe7f11858f4abba ∷ 0x3fe7f11c597d793d ∷ 0x3fe7f12057e0a92b ∷ 0x3fe7f124541ff54d ∷
    0x3fe7f1284e3d159a ∷ 0x3fe7f12c4639c030 ∷ 0x3fe7f1303c17a954 ∷ 0x3fe7f1342fd88383 ∷ []) ∷
    -- 960
    (0x3fe7f138217dff65 ∷ 0x3fe7f13c1109cbd4 ∷ 0x3fe7f13ffe7d95e5 ∷ 0x3fe7f143e9db08de ∷
    0x3fe7f147d323ce46 ∷ 0x3fe7f14bba598dda ∷ 0x3fe7f14f9f7ded9d ∷ 0x3fe7f153829291ce ∷
    0x3fe7f15763991cf3 ∷ 0x3fe7f15b42932fd3 ∷ 0x3fe7f15f1f826984 ∷ 0x3fe7f162fa686762 ∷
    0x3fe7f166d346c516 ∷ 0x3fe7f16aaa1f1c9a ∷ 0x3fe7f16e7ef30637 ∷ 0x3fe7f17251c41889 ∷ []) ∷
    -- 976
    (0x3fe7f1762293e887 ∷ 0x3fe7f179f1640976 ∷ 0x3fe7f17dbe360cfe ∷ 0x3fe7f181890b831f ∷
    0x3fe7f18551e5fa36 ∷ 0x3fe7f18918c6ff06 ∷ 0x3fe7f18cddb01cae ∷ 0x3fe7f190a0a2dcb4 ∷
    0x3fe7f19461a0c704 ∷ 0x3fe7f19820ab61f6 ∷ 0x3fe7f19bddc43249 ∷ 0x3fe7f19f98ecbb28 ∷
    0x3fe7f1a352267e34 ∷ 0x3fe7f1a70972fb75 ∷ 0x3fe7f1aabed3b16d ∷ 0x3fe7f1ae724a1d12 ∷ []) ∷
    -- 992
    (0x3fe7f1b223d7b9ce ∷ 0x3fe7f1b5d37e0186 ∷ 0x3fe7f1b9813e6c98 ∷ 0x3fe7f1bd2d1a71e4 ∷
    0x3fe7f1c0d71386c4 ∷ 0x3fe7f1c47f2b1f10 ∷ 0x3fe7f1c82562ad2b ∷ 0x3fe7f1cbc9bba1f4 ∷
    0x3fe7f1cf6c376cd8 ∷ 0x3fe7f1cf6c376cd8 ∷ 0x3fe7f1cf6c376cd8 ∷ 0x3fe7f1cf6c376cd8 ∷
    0x3fe7f1cf6c376cd8 ∷ 0x3fe7f1cf6c376cd8 ∷ 0x3fe7f1cf6c376cd8 ∷ 0x3fe7f1cf6c376cd8 ∷ []) ∷
    []

unfoldable pub sinh_degree_minus_two : ℕ → Float
sinh_degree_minus_two s = entry bits (min s 1000)
